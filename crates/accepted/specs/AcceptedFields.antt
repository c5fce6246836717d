-- The fields of an accepted list: what it has from each place of a field on. Assumes nothing.
use Rattle.std.specs.Prelude.{◌≡◌, refl, List, [], ◌∷◌, ◌++◌, ℕ, zero, suc, ◌+◌, ◌-◌, ◌<◌, ◌≤◌, ltb, leb, eqb, length, get_or, set}
use Rattle.std.proofs.Common.{sym, ap, ap₂, ◌∙◌, ⊎_elim, append_assoc, add-zero, arith, length-set, get_or-set_same, get_or-set_other}
use Rattle.std.proofs.Common.{leb-true, ltb-true, ltb-false, eqb-true}
use Rattle.std.proofs.lemmas.Bool.{eqb-false}
use Rattle.masks.specs.Pick.{pick}
use Rattle.limits.specs.Limits.{most_settings, largest_setting}
use Rattle.grammar.specs.Grammar.{advance, after_field, after_setting}
use Rattle.sheet.specs.Sources.{refusal_from, of_numbers}
use Rattle.accepted.specs.Sheets.{fields_numbers, Rises, rises-none, rises-one, FieldRight}
use Rattle.accepted.specs.Accept.{ranged_in, ordered_in, pick_in, up_to-le}
use Rattle.grammar.specs.declared.grammar.Expected.TheVariants.{Count, Setting, Reach}
use Rattle.grammar.specs.declared.grammar.State.TheVariants.{Wants}

pub record SettingsIn (f left floor n : ℕ) (ds ys : List ℕ) : Type 0 where
  pub settings : List ℕ
  pub rest : List ℕ
  pub split : ys ≡ settings ++ rest
  pub size : length settings ≡ suc left
  pub rise : Rises floor settings
  pub on : refusal_from (after_field n f) ds (of_numbers rest) ≡ 0

settings-one : (f left floor n x : ℕ) (ds ys : List ℕ) → floor ≤ x → x ≤ largest_setting
    → ((l : ℕ) → refusal_from (Wants n (Setting f l (x + 1))) ds (of_numbers ys) ≡ 0 → SettingsIn f l (x + 1) n ds ys)
    → refusal_from (after_setting n f left (x + 1)) ds (of_numbers ys) ≡ 0 → SettingsIn f left floor n ds (x ∷ ys)
settings-one f left floor n x ds ys h k ih e =
    ⊎_elim
    (λ r. record {
      settings = x ∷ [];
      rest = ys;
      split = refl;
      size = ap suc (sym (eqb-true left 0 r.0));
      rise = rises-one h k rises-none;
      on = r.1;
    })
    (λ r. let t = ih (left - 1) r.1 in record {
      settings = x ∷ t.settings;
      rest = t.rest;
      split = ap (λ (l : List ℕ). x ∷ l) t.split;
      size = let q = eqb-false left 0 r.0 in omega (arith, t.size);
      rise = rises-one h k t.rise;
      on = t.on;
    })
    (pick_in (eqb left 0) (after_field n f) (Wants n (Setting f (left - 1) (x + 1))) ds (of_numbers ys) e)

settings_in : (ys : List ℕ) (f left floor n : ℕ) (ds : List ℕ) → refusal_from (Wants n (Setting f left floor)) ds (of_numbers ys) ≡ 0
    → SettingsIn f left floor n ds ys
unfolding refusal_from advance
settings_in [] f left floor n ds e = absurd (omega arith)
settings_in (x ∷ ys) f left floor n ds e =
    let r = ranged_in (leb x largest_setting) _ ds (of_numbers ys) e in
    let o = ordered_in (leb floor x) _ ds (of_numbers ys) r.1 in
    settings-one f left floor n x ds ys (leb-true floor x o.0) (leb-true x largest_setting r.0)
    (λ l. settings_in ys f l (x + 1) n ds) o.1

pub record FieldsIn (f m n : ℕ) (ds ys : List ℕ) : Type 0 where
  pub fields : List (List ℕ)
  pub rest : List ℕ
  pub counts : List ℕ
  pub split : ys ≡ fields_numbers fields ++ rest
  pub size : length fields ≡ m
  pub right : (k : ℕ) → k < length fields → FieldRight (get_or fields k [])
  pub before : (k : ℕ) → k < f → get_or counts k 0 ≡ get_or ds k 0
  pub after : (k : ℕ) → k < length fields → get_or counts (f + k) 0 ≡ length (get_or fields k [])
  pub on : refusal_from (Wants n Reach) counts (of_numbers rest) ≡ 0

fields-none : (f n : ℕ) (ds ys : List ℕ) → refusal_from (Wants n Reach) ds (of_numbers ys) ≡ 0 → FieldsIn f 0 n ds ys
unfolding fields_numbers
fields-none f n ds ys e = record {
  fields = [];
  rest = ys;
  counts = ds;
  split = refl;
  size = refl;
  right = λ k h. absurd (omega arith);
  before = λ k h. refl;
  after = λ k h. absurd (omega arith);
  on = e;
}

-- a field in front of those after it
fields-one : (f m n d : ℕ) (ds ys : List ℕ) → f < length ds → 1 ≤ d → d ≤ most_settings
    → (t : SettingsIn f (d - 1) 0 n (set ds f d) ys) → FieldsIn (f + 1) m n (set ds f d) t.rest → FieldsIn f (suc m) n ds (d ∷ ys)
unfolding fields_numbers
fields-one f m n d ds ys h p q t u =
    let z = t.settings in
    let size : length z ≡ d = let r = t.size in omega arith in
    record {
      fields = z ∷ u.fields;
      rest = u.rest;
      counts = u.counts;
      split =
          ap₂ ◌∷◌ (sym size)
          (t.split ∙ ap (λ (l : List ℕ). z ++ l) u.split ∙ sym (append_assoc z (fields_numbers u.fields) u.rest));
      size = ap suc u.size;
      right = right;
      before = λ k l. u.before k (omega arith) ∙ get_or-set_other ds f k d 0 (λ r. absurd (omega (arith, r)));
      after = after z size;
      on = u.on;
    }
  where
    right : (k : ℕ) → k < length (t.settings ∷ u.fields) → FieldRight (get_or (t.settings ∷ u.fields) k [])
    right zero l = let e = t.size in record { some = omega arith; few = omega arith; rise = t.rise }
    right (suc k) l = u.right k (omega arith)

    after : (z : List ℕ) → length z ≡ d → (k : ℕ) → k < length (z ∷ u.fields)
        → get_or u.counts (f + k) 0 ≡ length (get_or (z ∷ u.fields) k [])
    after z e zero l = ap (λ (i : ℕ). get_or u.counts i 0) (add-zero f) ∙ u.before f (omega arith) ∙ get_or-set_same ds f d 0 h ∙ sym e
    after z e (suc k) l = ap (λ (i : ℕ). get_or u.counts i 0) (let i : f + suc k ≡ f + 1 + k = omega arith in i) ∙ u.after k (omega arith)

pub fields_in : (m f n : ℕ) (ds ys : List ℕ) → f + m ≡ n → n ≤ length ds
    → refusal_from (pick (ltb f n) (Wants n (Count f)) (Wants n Reach)) ds (of_numbers ys) ≡ 0 → FieldsIn f m n ds ys
unfolding refusal_from advance
fields_in zero f n ds ys h k e =
    ⊎_elim (λ r. absurd (omega (arith, ltb-true f n r.0, h))) (λ r. fields-none f n ds ys r.1)
    (pick_in (ltb f n) (Wants n (Count f)) (Wants n Reach) ds (of_numbers ys) e)
fields_in (suc m) f n ds ys h k e =
    ⊎_elim (λ r. go ys r.1 (λ d rest. fields_in m (f + 1) n (set ds f d) rest (omega arith) (rw (length-set ds f d) k)))
    (λ r. absurd (omega (arith, ltb-false f n r.0, h)))
    (pick_in (ltb f n) (Wants n (Count f)) (Wants n Reach) ds (of_numbers ys) e)
  where
    go : (ys : List ℕ) → refusal_from (Wants n (Count f)) ds (of_numbers ys) ≡ 0
        → ((d : ℕ) (rest : List ℕ) → refusal_from (after_field n f) (set ds f d) (of_numbers rest) ≡ 0
        → FieldsIn (f + 1) m n (set ds f d) rest)
        → FieldsIn f (suc m) n ds ys
    go [] e ih = absurd (omega arith)
    go (d ∷ ys) e ih =
        let r = ranged_in _ _ (set ds f d) (of_numbers ys) e in
        let b = up_to-le most_settings d r.0 in
        let t = settings_in ys f (d - 1) 0 n (set ds f d) r.1 in
        fields-one f m n d ds ys (omega arith) b.0 b.1 t (ih d t.rest t.on)
