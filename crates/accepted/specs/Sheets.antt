-- A sheet as fields, a reach, rules and triples, its numbers, and what makes it right. Assumes nothing.
use Rattle.std.specs.Prelude.{◌≡◌, ◌⊎◌, Bool, false, ◌||◌, List, [], ◌∷◌, ◌++◌, ℕ, ◌+◌, ◌^◌, ◌<◌, ◌≤◌, eqb, length, get_or}
use Rattle.limits.specs.Limits.{most_fields, most_settings, largest_setting, whole_reach, most_rules, most_triples, last_kind, retired_kind}
use Rattle.grammar.specs.Grammar.{key, triple_key}

-- a rule: its fields i and j, its kind, and its numbers: masks, or c
pub record Rule : Type 0 where
  pub i : ℕ
  pub j : ℕ
  pub kind : ℕ
  pub values : List ℕ

-- a triple: its fields i, j and k, and c
pub record Triple : Type 0 where
  pub i : ℕ
  pub j : ℕ
  pub k : ℕ
  pub c : ℕ

-- a sheet: the settings of each field, the reach, the rules, and the triples
pub record Sheet : Type 0 where
  pub fields : List (List ℕ)
  pub reach : ℕ
  pub rules : List Rule
  pub triples : List Triple

-- their numbers: each field's count and settings
unfoldable pub fields_numbers : List (List ℕ) → List ℕ
fields_numbers [] = []
fields_numbers (f ∷ fs) = length f ∷ (f ++ fields_numbers fs)

-- each rule's fields, kind and numbers
unfoldable pub rules_numbers : List Rule → List ℕ
rules_numbers [] = []
rules_numbers (r ∷ rs) = r.i ∷ r.j ∷ r.kind ∷ (r.values ++ rules_numbers rs)

-- each triple's fields and c
unfoldable pub triples_numbers : List Triple → List ℕ
triples_numbers [] = []
triples_numbers (t ∷ ts) = t.i ∷ t.j ∷ t.k ∷ t.c ∷ triples_numbers ts

-- what stands after the rules: nothing, or the count of triples and the triples
unfoldable pub triples_part : List Triple → List ℕ
triples_part [] = []
triples_part (t ∷ ts) = length (t ∷ ts) ∷ triples_numbers (t ∷ ts)

-- the list that a sheet is: fields n, the fields, the reach, rules e, the rules, and the triples where it has some
unfoldable pub sheet_numbers : Sheet → List ℕ
sheet_numbers s =
    length s.fields
    ∷ (fields_numbers s.fields ++ (s.reach ∷ length s.rules ∷ (rules_numbers s.rules ++ triples_part s.triples)))

-- settings from a floor on, strictly rising
pub data Rises : ℕ → List ℕ → Type 0 where
  rises-none : {floor : ℕ} → Rises floor []
  rises-one : {floor x : ℕ} {xs : List ℕ} → floor ≤ x → x ≤ largest_setting → Rises (x + 1) xs → Rises floor (x ∷ xs)

-- numbers below a bound
pub data Below (b : ℕ) : List ℕ → Type 0 where
  below_none : Below b []
  below_one : {x : ℕ} {xs : List ℕ} → x < b → Below b xs → Below b (x ∷ xs)

-- 1 to 24 settings, each at most the largest one, strictly rising
pub record FieldRight (f : List ℕ) : Type 0 where
  pub some : 1 ≤ length f
  pub few : length f ≤ most_settings
  pub rise : Rises 0 f

-- a rule's numbers, with d the counts of the fields: for kind 0, d of i masks, each below 2 to the power d of j; else c, at most the
-- largest setting
abbrev pub ValuesRight : (ℕ → ℕ) → Rule → Type 0
ValuesRight d r = ((r.kind ≡ 0) × (length r.values ≡ d r.i) × Below (2 ^ d r.j) r.values)
    ⊎ ((r.kind ≡ 0 → ⊥) × (length r.values ≡ 1) × Below (largest_setting + 1) r.values)

-- i below j below n, and a kind of 0 to 5
pub record RuleRight (n : ℕ) (d : ℕ → ℕ) (r : Rule) : Type 0 where
  pub apart : r.i < r.j
  pub within : r.j < n
  pub kind-le : r.kind ≤ last_kind
  pub numbers : ValuesRight d r

-- rules from a floor on, strictly rising by (i, j)
pub data Ruled (n : ℕ) (d : ℕ → ℕ) : ℕ → List Rule → Type 0 where
  ruled-none : {floor : ℕ} → Ruled n d floor []
  ruled-one : {floor : ℕ} {r : Rule} {rs : List Rule} → floor ≤ key r.i r.j → RuleRight n d r → Ruled n d (key r.i r.j + 1) rs
      → Ruled n d floor (r ∷ rs)

-- i below j below k below n, and c at most the largest setting
pub record TripleRight (n : ℕ) (t : Triple) : Type 0 where
  pub apart : t.i < t.j
  pub above : t.j < t.k
  pub within : t.k < n
  pub amount_le : t.c ≤ largest_setting

-- the place of a triple in the order
abbrev pub key_of_triple : Triple → ℕ
key_of_triple t = triple_key t.i t.j t.k

-- triples from a floor on, strictly rising by (i, j, k)
pub data Tripled (n : ℕ) : ℕ → List Triple → Type 0 where
  tripled-none : {floor : ℕ} → Tripled n floor []
  tripled-one : {floor : ℕ} {t : Triple} {ts : List Triple} → floor ≤ key_of_triple t → TripleRight n t → Tripled n (key_of_triple t + 1) ts
      → Tripled n floor (t ∷ ts)

-- whether some rule is of the retired kind, which the writer refuses
unfoldable pub retired_rules : List Rule → Bool
retired_rules [] = false
retired_rules (r ∷ rs) = eqb r.kind retired_kind || retired_rules rs

-- the count of a field's settings
abbrev pub counted : Sheet → ℕ → ℕ
counted s f = length (get_or s.fields f [])

-- A right sheet: 1 to 24 fields, a reach of 1 to 24, at most 276 rules, and at most 32 triples.
pub record Right (s : Sheet) : Type 0 where
  pub some : 1 ≤ length s.fields
  pub few : length s.fields ≤ most_fields
  pub field : (f : ℕ) → f < length s.fields → FieldRight (get_or s.fields f [])
  pub reach-some : 1 ≤ s.reach
  pub reach_few : s.reach ≤ whole_reach
  pub rules-few : length s.rules ≤ most_rules
  pub ruled : Ruled (length s.fields) (counted s) 0 s.rules
  pub triples-few : length s.triples ≤ most_triples
  pub tripled : Tripled (length s.fields) 0 s.triples

-- A list of numbers that is the numbers of a right sheet.
pub record IsSheet (xs : List ℕ) : Type 0 where
  pub sheet : Sheet
  pub split : xs ≡ sheet_numbers sheet
  pub right : Right sheet
