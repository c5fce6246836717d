-- The table of the triple rules, and the problem that it and the tables of the rules over two fields hold. Assumes nothing.
--
-- Its words: how many triple rules there are; for each field the mask of its settings on the sheet; for each field the mask of the triple
-- rules that have it; then for each triple rule its three fields and a word for each pair of positions of the first two, the mask of the
-- positions of the third that it allows beside them.
use Rattle.std.specs.Prelude.{◌≡◌, refl, true, ◌&&◌, List, ℕ, ◌+◌, ◌*◌, ◌^◌, ◌≤◌, ◌<◌, ltb, length, get_or, take, drop}
use Rattle.std.proofs.Common.{◌∙◌, arith, get_or-take, get_or-drop}
use Rattle.limits.specs.Limits.{most_fields, most_settings, most_triples, triples_front, triple_words}
use Rattle.masks.specs.Bits.{bit}
use Rattle.consistency.specs.Problem.{Triple, has_field, list_triples, length-triples, listed-triple, Problem, triple_at}
use Rattle.consistency.specs.Problem.{TriplesIn}
use Rattle.consistency.specs.Revising.{rules_only, NoTriples}
use Rattle.network.specs.Tables.{rows_of, rule_problem}

-- how many triple rules
abbrev pub triple_count : List ℕ → ℕ
triple_count T = get_or T 0 0

-- where triple rule t stands: its fields, and its words after them
abbrev pub triple_block : ℕ → ℕ
triple_block t = triples_front + t * triple_words

abbrev pub triple_rows : ℕ → ℕ
triple_rows t = triple_block t + 3

-- the word of positions p and q of its first two fields, where its words begin at `rows`
abbrev pub word_at : List ℕ → ℕ → ℕ → ℕ → ℕ
word_at T rows p q = get_or T (rows + p * most_settings + q) 0

unfoldable pub triple_in : List ℕ → ℕ → Triple
triple_in T t = record {
  first = get_or T (triple_block t) 0;
  second = get_or T (triple_block t + 1) 0;
  third = get_or T (triple_block t + 2) 0;
  fits = λ p q r. ltb p most_settings && (ltb q most_settings && bit (word_at T (triple_rows t) p q) r);
}

-- all settings on the sheet
unfoldable pub sheet_in : List ℕ → List ℕ
sheet_in T = take most_fields (drop 1 T)

-- the mask of the triple rules that have field f
abbrev pub triples_with : List ℕ → ℕ → ℕ
triples_with T f = get_or T (1 + most_fields + f) 0

-- The problem that the tables hold for n fields.
unfoldable pub problem_of : ℕ → List ℕ → List ℕ → List ℕ → List ℕ → Problem
problem_of n joined forward turned T = record {
  fields = n;
  joined = λ f g. bit (get_or joined f 0) g;
  allowed = λ f g v u. bit (get_or joined f 0) g && bit (get_or (rows_of forward turned f g) v 0) u;
  sheet = sheet_in T;
  triples = list_triples (triple_count T) (triple_in T);
}

-- its rules over two fields
pub rules-of : (n : ℕ) (joined forward turned T : List ℕ) → rules_only (problem_of n joined forward turned T)
    ≡ rule_problem n joined forward turned
unfolding problem_of rule_problem
rules-of n joined forward turned T = refl

pub no_triples : (n : ℕ) (joined forward turned : List ℕ) → NoTriples (rule_problem n joined forward turned)
unfolding rule_problem
no_triples n joined forward turned t l = omega arith

-- What the engines ask of the table.
pub record TripleTable (n : ℕ) (T : List ℕ) : Type 0 where
  pub few : triple_count T ≤ most_triples
  pub long : triples_front + triple_count T * triple_words ≤ length T
  pub rise : (t : ℕ) → t < triple_count T → ((triple_in T t).first < (triple_in T t).second)
      × ((triple_in T t).second < (triple_in T t).third)
      × ((triple_in T t).third < n)
  pub have : (f t : ℕ) → f < n → t < triple_count T → bit (triples_with T f) t ≡ has_field (triple_in T t) f
  pub have-low : (f t : ℕ) → f < n → bit (triples_with T f) t ≡ true → t < triple_count T
  pub small : (f : ℕ) → f < most_fields → get_or T (1 + f) 0 < 2 ^ most_settings

module _ (n : ℕ) (joined forward turned T : List ℕ) where
  abbrev P : Problem
  P = problem_of n joined forward turned T

  pub count-triples : length (problem_of n joined forward turned T).triples ≡ triple_count T
  unfolding problem_of
  count-triples = length-triples (triple_count T) (triple_in T)

  pub triple-is : (t : ℕ) → t < triple_count T → triple_at (problem_of n joined forward turned T) t ≡ triple_in T t
  unfolding problem_of
  triple-is t h = listed-triple (triple_count T) (triple_in T) t h

  pub triples_in : TripleTable n T → TriplesIn (problem_of n joined forward turned T)
  triples_in x t l =
      let h : t < triple_count T = (let e = count-triples in omega arith) in
      rw (triple-is t h) (record { lower = (x.rise t h).0; upper = (x.rise t h).1; within = unfold problem_of in (x.rise t h).2 })

pub sheet-word : (T : List ℕ) (f : ℕ) → f < most_fields → get_or (sheet_in T) f 0 ≡ get_or T (1 + f) 0
unfolding sheet_in
sheet-word T f h = get_or-take most_fields (drop 1 T) f 0 h ∙ get_or-drop 1 T f 0
