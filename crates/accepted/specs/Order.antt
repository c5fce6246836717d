-- The order of an accepted sheet's settings, rules and triples: settings rise within a field, and rules by (i, j), so no pair has two;
-- triples by (i, j, k), so no three fields have two. Assumes nothing.
use Rattle.std.specs.Prelude.{◌≡◌, refl, ◌⊎◌, Bool, true, false, List, ℕ, zero, suc, ◌<◌, ltb}
use Rattle.std.proofs.Common.{ap, ap₂, inl, inr, arith, ltb-true, ltb-false}
use Rattle.limits.specs.Limits.{most_fields}
use Rattle.grammar.specs.Grammar.{key, triple_key}
use Rattle.accepted.specs.Parts.{fields_of, count_of, setting_of, rules_of, first_of, second_of, triples_of, triple_first}
use Rattle.accepted.specs.Parts.{triple_second, triple_third}
use Rattle.accepted.specs.Facts.{Facts}

-- what rises from each number to the next rises from each to every later one
rises : (f : ℕ → ℕ) (n : ℕ) → ((k : ℕ) → suc k < n → f k < f (suc k)) → (r s : ℕ) → r < s → s < n → f r < f s
rises f n h r zero p q = absurd (omega arith)
rises f n h r (suc s) p q = go (λ l. rises f n h r s l (omega arith)) (ltb r s) refl
  where
    go : (r < s → f r < f s) → (t : Bool) → ltb r s ≡ t → f r < f (suc s)
    go ih true e = omega (arith, ih (ltb-true r s e), h s q)
    go ih false e =
        let z : r ≡ s = let l = ltb-false r s e in omega arith in
        omega (arith, ap f z, h s q)

-- keys that rise are fields in the order by (i, j, k)
lexicographic : (i j k l m n : ℕ) → m < most_fields → n < most_fields → triple_key i j k < triple_key l m n
    → (i < l) ⊎ ((i ≡ l) × ((j < m) ⊎ ((j ≡ m) × (k < n))))
lexicographic i j k l m n p q h = go (ltb i l) (ltb j m) refl refl
  where
    go : (s t : Bool) → ltb i l ≡ s → ltb j m ≡ t → (i < l) ⊎ ((i ≡ l) × ((j < m) ⊎ ((j ≡ m) × (k < n))))
    go true t e f = inl (ltb-true i l e)
    go false true e f = let a = ltb-false i l e in inr (omega arith, inl (ltb-true j m f))
    go false false e f = let a = ltb-false i l e in let b = ltb-false j m f in inr (omega arith, inr (omega arith, omega arith))

module _ (xs : List ℕ) (g : Facts xs) where
  pub settings-rise : (f v w : ℕ) → f < fields_of xs → v < w → w < count_of xs f → setting_of xs f v < setting_of xs f w
  settings-rise f v w h p q = rises (setting_of xs f) (count_of xs f) (λ k l. g.setting-rise f k h l) v w p q

  keys_rise : (r s : ℕ) → r < s → s < rules_of xs → key (first_of xs r) (second_of xs r) < key (first_of xs s) (second_of xs s)
  keys_rise r s p q = rises (λ k. key (first_of xs k) (second_of xs k)) (rules_of xs) g.rule-rise r s p q

  pub rules-rise : (r s : ℕ) → r < s → s < rules_of xs
      → (first_of xs r < first_of xs s) ⊎ ((first_of xs r ≡ first_of xs s) × (second_of xs r < second_of xs s))
  rules-rise r s p q = go (ltb (first_of xs r) (first_of xs s)) refl
    where
      go : (t : Bool) → ltb (first_of xs r) (first_of xs s) ≡ t
          → (first_of xs r < first_of xs s) ⊎ ((first_of xs r ≡ first_of xs s) × (second_of xs r < second_of xs s))
      go true e = inl (ltb-true (first_of xs r) (first_of xs s) e)
      go false e =
          let l = ltb-false (first_of xs r) (first_of xs s) e in
          let k = keys_rise r s p q in
          let b = g.within s q in
          let n = g.fields-few in
          inr (omega arith, omega arith)

  pub no_pair-twice : (r s : ℕ) → r < s → s < rules_of xs → first_of xs r ≡ first_of xs s → second_of xs r ≡ second_of xs s → ⊥
  no_pair-twice r s p q i j = omega (arith, keys_rise r s p q, ap₂ key i j)

  triple_keys_rise : (t u : ℕ) → t < u → u < triples_of xs
      → triple_key (triple_first xs t) (triple_second xs t) (triple_third xs t)
      < triple_key (triple_first xs u) (triple_second xs u) (triple_third xs u)
  triple_keys_rise t u p q =
      rises (λ k. triple_key (triple_first xs k) (triple_second xs k) (triple_third xs k)) (triples_of xs) g.triple-rise t u p q

  pub triples-rise : (t u : ℕ) → t < u → u < triples_of xs
      → (triple_first xs t < triple_first xs u)
      ⊎ ((triple_first xs t ≡ triple_first xs u)
      × ((triple_second xs t < triple_second xs u)
      ⊎ ((triple_second xs t ≡ triple_second xs u) × (triple_third xs t < triple_third xs u))))
  triples-rise t u p q =
      lexicographic (triple_first xs t) (triple_second xs t) (triple_third xs t)
      (triple_first xs u) (triple_second xs u) (triple_third xs u)
      (let a = g.triple-above u q in let b = g.triple-within u q in let n = g.fields-few in omega arith)
      (let b = g.triple-within u q in let n = g.fields-few in omega arith)
      (triple_keys_rise t u p q)

  pub no_triple-twice : (t u : ℕ) → t < u → u < triples_of xs → triple_first xs t ≡ triple_first xs u
      → triple_second xs t ≡ triple_second xs u
      → triple_third xs t ≡ triple_third xs u → ⊥
  no_triple-twice t u p q i j k = omega (arith, triple_keys_rise t u p q, i, j, k)
