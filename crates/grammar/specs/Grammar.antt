-- The sheet, number after number: what is expected, its range (else 3), its order (else 4), and what follows. Assumes nothing.
use Rattle.std.specs.Prelude.{Bool, ◌&&◌, List, ℕ, ◌+◌, ◌-◌, ◌*◌, ◌^◌, ltb, leb, eqb, get_or, set, replicate}
use Rattle.std.specs.Prelude.{Result, Ok, Err}
use Rattle.masks.specs.Pick.{pick}
use Rattle.limits.specs.Limits.{most_fields, most_settings, largest_setting, whole_reach, most_rules, most_triples, last_kind}
use Rattle.limits.specs.declared.refusals.Refusal.{Refusal}
use Rattle.limits.specs.declared.refusals.Refusal.TheVariants.{EndsInside, OutOfRange, OutOfOrder}
use Rattle.grammar.specs.declared.grammar.Expected.{Expected}
use Rattle.grammar.specs.declared.grammar.Expected.TheVariants.{Fields, Count, Setting, Reach, Rules, First, Second, Kind, Mask}
use Rattle.grammar.specs.declared.grammar.Expected.TheVariants.{Amount, Triples, TripleFirst, TripleSecond}
use Rattle.grammar.specs.declared.grammar.Expected.TheVariants.{TripleThird, TripleAmount}
use Rattle.grammar.specs.declared.grammar.State.{State}
use Rattle.grammar.specs.declared.grammar.State.TheVariants.{Wants, Complete}

-- x is from 1 to `most`
abbrev pub up_to : ℕ → ℕ → Bool
up_to most x = leb 1 x && leb x most

-- a number in its range leads on, another is refused
abbrev pub ranged : {A : Type 0} → Bool → Result A Refusal → Result A Refusal
ranged test next = pick test next (Err OutOfRange)

-- so for the order
abbrev pub ordered : {A : Type 0} → Bool → Result A Refusal → Result A Refusal
ordered test next = pick test next (Err OutOfOrder)

-- what follows field f's last setting, of n fields
abbrev pub after_field : ℕ → ℕ → State
after_field n f = pick (ltb (f + 1) n) (Wants n (Count (f + 1))) (Wants n Reach)

-- what follows a setting of field f, where `more` are to come, each at least `floor`
abbrev pub after_setting : ℕ → ℕ → ℕ → ℕ → State
after_setting n f more floor = pick (eqb more 0) (after_field n f) (Wants n (Setting f (more - 1) floor))

-- what follows a rule, where `rules` are to come, each at least `floor` by its key: after the last, the count of triples
abbrev pub after_rule : ℕ → ℕ → ℕ → State
after_rule n rules floor = pick (eqb rules 0) (Wants n Triples) (Wants n (First (rules - 1) floor))

-- what follows a mask, of which `more` are to come
abbrev pub after_mask : ℕ → ℕ → ℕ → ℕ → ℕ → State
after_mask n rules floor j more = pick (eqb more 0) (after_rule n rules floor) (Wants n (Mask rules floor j (more - 1)))

-- what follows a kind: `masks` masks, or a number c
abbrev pub after_kind : ℕ → ℕ → ℕ → ℕ → ℕ → ℕ → State
after_kind n rules floor j masks kind = pick (eqb kind 0) (Wants n (Mask rules floor j (masks - 1))) (Wants n (Amount rules floor))

-- the place of a rule in the order by (i, j)
abbrev pub key : ℕ → ℕ → ℕ
key i j = i * most_fields + j

-- a rule's fields i below j, and the rule not below the floor
abbrev pub rising : ℕ → ℕ → ℕ → Bool
rising i j floor = ltb i j && leb floor (key i j)

-- what follows a triple, where `triples` are to come, each at least `floor` by its key
abbrev pub after_triple : ℕ → ℕ → ℕ → State
after_triple n triples floor = pick (eqb triples 0) Complete (Wants n (TripleFirst (triples - 1) floor))

-- the place of a triple in the order by (i, j, k)
abbrev pub triple_key : ℕ → ℕ → ℕ → ℕ
triple_key i j k = (i * most_fields + j) * most_fields + k

-- a triple's fields j below k, and the triple not below the floor
abbrev pub rising_triple : ℕ → ℕ → ℕ → ℕ → Bool
rising_triple i j k floor = ltb j k && leb floor (triple_key i j k)

-- What the number x leads to, with n fields, and the counts ds of the fields so far, with x where it is one. `more`, `rules` and `triples`
-- count what is still to come after x of its field or rule, of the rules and of the triples; `floor` is the least that may come, one more
-- than what came last.
unfoldable pub advance : (n : ℕ) → Expected → (ds : List ℕ) → (x : ℕ) → Result State Refusal × List ℕ
advance n Fields ds x = (ranged (up_to most_fields x) (Ok (Wants x (Count 0))), ds)
advance n (Count f) ds x = (ranged (up_to most_settings x) (Ok (Wants n (Setting f (x - 1) 0))), set ds f x)
advance n (Setting f more floor) ds x =
    (ranged (leb x largest_setting) (ordered (leb floor x) (Ok (after_setting n f more (x + 1)))), ds)
advance n Reach ds x = (ranged (up_to whole_reach x) (Ok (Wants n Rules)), ds)
advance n Rules ds x = (ranged (leb x most_rules) (Ok (after_rule n x 0)), ds)
advance n (First rules floor) ds x = (ranged (ltb x n) (Ok (Wants n (Second rules floor x))), ds)
advance n (Second rules floor i) ds x = (ranged (ltb x n) (ordered (rising i x floor) (Ok (Wants n (Kind rules i x)))), ds)
advance n (Kind rules i j) ds x = (ranged (leb x last_kind) (Ok (after_kind n rules (key i j + 1) j (get_or ds i 0) x)), ds)
advance n (Mask rules floor j more) ds x = (ranged (ltb x (2 ^ get_or ds j 0)) (Ok (after_mask n rules floor j more)), ds)
advance n (Amount rules floor) ds x = (ranged (leb x largest_setting) (Ok (after_rule n rules floor)), ds)
advance n Triples ds x = (ranged (up_to most_triples x) (Ok (after_triple n x 0)), ds)
advance n (TripleFirst triples floor) ds x = (ranged (ltb x n) (Ok (Wants n (TripleSecond triples floor x))), ds)
advance n (TripleSecond triples floor i) ds x = (ranged (ltb x n) (ordered (ltb i x) (Ok (Wants n (TripleThird triples floor i x)))), ds)
advance n (TripleThird triples floor i j) ds x =
    (ranged (ltb x n) (ordered (rising_triple i j x floor) (Ok (Wants n (TripleAmount triples (triple_key i j x + 1))))), ds)
advance n (TripleAmount triples floor) ds x = (ranged (leb x largest_setting) (Ok (after_triple n triples floor)), ds)

-- before the first number, and the counts then
abbrev pub start : State
start = Wants 0 Fields

abbrev pub no_counts : List ℕ
no_counts = replicate most_fields 0

-- a source that ends where a number is expected: a sheet may end before the count of triples
abbrev pub ends_before : Expected → Result Unit Refusal
ends_before Fields = Err EndsInside
ends_before (Count f) = Err EndsInside
ends_before (Setting f more floor) = Err EndsInside
ends_before Reach = Err EndsInside
ends_before Rules = Err EndsInside
ends_before (First rules floor) = Err EndsInside
ends_before (Second rules floor i) = Err EndsInside
ends_before (Kind rules i j) = Err EndsInside
ends_before (Mask rules floor j more) = Err EndsInside
ends_before (Amount rules floor) = Err EndsInside
ends_before Triples = Ok tt
ends_before (TripleFirst triples floor) = Err EndsInside
ends_before (TripleSecond triples floor i) = Err EndsInside
ends_before (TripleThird triples floor i j) = Err EndsInside
ends_before (TripleAmount triples floor) = Err EndsInside

-- a source that ends here
abbrev pub at_end : State → Result Unit Refusal
at_end (Wants n e) = ends_before e
at_end Complete = Ok tt
