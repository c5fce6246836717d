-- How long an accepted sheet can be. Assumes nothing.
use Rattle.std.specs.Prelude.{◌≡◌, refl, Bool, true, false, List, [], ◌∷◌, ◌++◌, ℕ, zero, suc, ◌+◌, ◌*◌, ◌^◌, ◌<◌, ◌≤◌, ltb, length, get_or}
use Rattle.std.proofs.Common.{sym, ap, ◌∙◌, inl, inr, append_assoc, arith, pow_mono, length-append, ltb-true, ltb-false}
use Rattle.groups.specs.Groups.{encode, size_1, size_2, size_3, size_4}
use Rattle.limits.specs.Limits.{most_fields, most_settings, largest_setting, most_triples, most_bytes, most_numbers}
use Rattle.sheet.specs.Sources.{bytes_of, Accepted}
use Rattle.accepted.specs.Sheets.{Rule, Sheet, fields_numbers, rules_numbers, sheet_numbers, Rises, rises-none, rises-one, Below}
use Rattle.accepted.specs.Sheets.{below_none, below_one, FieldRight, ValuesRight, Ruled, ruled-none, ruled-one, Right, counted}
use Rattle.accepted.specs.Sheets.{Triple, triples_numbers, triples_part, Tripled, tripled-none, tripled-one}
use Rattle.accepted.specs.AcceptedSheet.{sheet-in}

-- ---- how many groups

groups-le : (x : ℕ) → length (encode x) ≤ 4
groups-le x = go (ltb x 128) (ltb x 16384) (ltb x 2097152) refl refl refl
  where
    go : (r s t : Bool) → ltb x 128 ≡ r → ltb x 16384 ≡ s → ltb x 2097152 ≡ t → length (encode x) ≤ 4
    go true s t p q e = omega (arith, size_1 x (ltb-true x 128 p))
    go false true t p q e = omega (arith, size_2 x (ltb-false x 128 p) (ltb-true x 16384 q))
    go false false true p q e = omega (arith, size_3 x (ltb-false x 16384 q) (ltb-true x 2097152 e))
    go false false false p q e = omega (arith, size_4 x (ltb-false x 2097152 e))

groups-two : (x : ℕ) → x < 16384 → length (encode x) ≤ 2
groups-two x h = go (ltb x 128) refl
  where
    go : (r : Bool) → ltb x 128 ≡ r → length (encode x) ≤ 2
    go true p = omega (arith, size_1 x (ltb-true x 128 p))
    go false p = omega (arith, size_2 x (ltb-false x 128 p) h)

groups-three : (x : ℕ) → x < 2097152 → length (encode x) ≤ 3
groups-three x h = go (ltb x 16384) refl
  where
    go : (r : Bool) → ltb x 16384 ≡ r → length (encode x) ≤ 3
    go true p = omega (arith, groups-two x (ltb-true x 16384 p))
    go false p = omega (arith, size_3 x (ltb-false x 16384 p) h)

-- three groups hold each setting, and each c
pub setting-groups : (x : ℕ) → x ≤ largest_setting → length (encode x) ≤ 3
setting-groups x h = groups-three x (omega arith)

-- ---- lists of at most `most` numbers, each below 2 ^ 28, and at most `room` bytes

pub record Sized (room most : ℕ) (xs : List ℕ) : Type 0 where
  pub bytes : length (bytes_of xs) ≤ room
  pub count : length xs ≤ most
  pub below : (k : ℕ) → get_or xs k 0 < 2 ^ 28

sized-none : Sized 0 0 []
unfolding bytes_of
sized-none = record { bytes = omega arith; count = omega arith; below = λ k. omega arith }

sized-one : (g room most x : ℕ) (xs : List ℕ) → length (encode x) ≤ g → x < 2 ^ 28 → Sized room most xs
    → Sized (g + room) (suc most) (x ∷ xs)
unfolding bytes_of
sized-one g room most x xs h k t = record {
  bytes = omega (arith, length-append (encode x) (bytes_of xs), t.bytes);
  count = omega (arith, t.count);
  below = below;
}
  where
    below : (i : ℕ) → get_or (x ∷ xs) i 0 < 2 ^ 28
    below zero = k
    below (suc i) = t.below i

sized-more : (room most room' most' : ℕ) (xs : List ℕ) → room ≤ room' → most ≤ most' → Sized room most xs → Sized room' most' xs
sized-more room most room' most' xs p q t = record { bytes = omega (arith, t.bytes); count = omega (arith, t.count); below = t.below }

bytes-append : (xs ys : List ℕ) → bytes_of (xs ++ ys) ≡ bytes_of xs ++ bytes_of ys
unfolding bytes_of
bytes-append [] ys = refl
bytes-append (x ∷ xs) ys =
    ap (λ (l : List ℕ). encode x ++ l) (bytes-append xs ys) ∙ sym (append_assoc (encode x) (bytes_of xs) (bytes_of ys))

sized-append : (room most room' most' : ℕ) (xs ys : List ℕ) → Sized room most xs → Sized room' most' ys
    → Sized (room + room') (most + most') (xs ++ ys)
sized-append room most room' most' xs ys t u = record {
  bytes = omega (arith, ap length (bytes-append xs ys), length-append (bytes_of xs) (bytes_of ys), t.bytes, u.bytes);
  count = omega (arith, length-append xs ys, t.count, u.count);
  below = below xs t.below;
}
  where
    below : (xs : List ℕ) → ((k : ℕ) → get_or xs k 0 < 2 ^ 28) → (k : ℕ) → get_or (xs ++ ys) k 0 < 2 ^ 28
    below [] h k = u.below k
    below (x ∷ xs) h zero = h 0
    below (x ∷ xs) h (suc k) = below xs (λ i. h (suc i)) k

sized-rises : (floor : ℕ) (xs : List ℕ) → Rises floor xs → Sized (3 * length xs) (length xs) xs
sized-rises floor xs rises-none = sized-none
sized-rises floor xs (rises-one {x = x} {xs = ys} p q t) =
    sized-more (3 + 3 * length ys) (suc (length ys)) _ _ (x ∷ ys) (omega arith) (omega arith)
    (sized-one 3 _ _ x ys (setting-groups x q) (omega arith) (sized-rises (x + 1) ys t))

sized-below : (b : ℕ) (xs : List ℕ) → b ≤ 2 ^ most_settings → Below b xs → Sized (4 * length xs) (length xs) xs
sized-below b xs h below_none = sized-none
sized-below b xs h (below_one {x = x} {xs = ys} p t) =
    sized-more (4 + 4 * length ys) (suc (length ys)) _ _ (x ∷ ys) (omega arith) (omega arith)
    (sized-one 4 _ _ x ys (groups-le x) (omega arith) (sized-below b ys h t))

sized-fields : (fs : List (List ℕ)) → ((k : ℕ) → k < length fs → FieldRight (get_or fs k []))
    → Sized (73 * length fs) (25 * length fs) (fields_numbers fs)
unfolding fields_numbers
sized-fields [] h = sized-none
sized-fields (f ∷ fs) h =
    let g = h 0 (omega arith) in
    let w = g.few in
    sized-more (1 + (3 * length f + 73 * length fs)) (suc (length f + 25 * length fs)) _ _ _ (omega arith) (omega arith)
    (sized-one 1 _ _ (length f) _ (omega (arith, size_1 (length f) (omega arith))) (omega arith)
    (sized-append _ _ _ _ f (fields_numbers fs) (sized-rises 0 f g.rise) (sized-fields fs (λ k l. h (suc k) (omega arith)))))

sized-values : (n : ℕ) (d : ℕ → ℕ) (r : Rule) → ((k : ℕ) → k < n → d k ≤ most_settings) → r.i < n → r.j < n → ValuesRight d r
    → Sized (4 * most_settings) most_settings r.values
sized-values n d r h p q (inl v) =
    let a = h r.i p in
    sized-more (4 * length r.values) (length r.values) (4 * most_settings) most_settings _ (omega (arith, v.1)) (omega (arith, v.1))
    (sized-below (2 ^ d r.j) r.values (pow_mono (h r.j q)) v.2)
sized-values n d r h p q (inr v) =
    sized-more (4 * length r.values) (length r.values) (4 * most_settings) most_settings _ (omega (arith, v.1)) (omega (arith, v.1))
    (sized-below (largest_setting + 1) r.values (omega arith) v.2)

sized-rules : (n floor : ℕ) (d : ℕ → ℕ) (rs : List Rule) → n ≤ most_fields → ((k : ℕ) → k < n → d k ≤ most_settings) → Ruled n d floor rs
    → Sized (99 * length rs) (27 * length rs) (rules_numbers rs)
unfolding rules_numbers
sized-rules n floor d rs m h ruled = go floor rs ruled
  where
    go : (low : ℕ) (rs : List Rule) → Ruled n d low rs → Sized (99 * length rs) (27 * length rs) (rules_numbers rs)
    go low rs ruled-none = sized-none
    go low rs (ruled-one {r = r} {rs = ts} l g t) =
        let a = g.apart in
        let b = g.within in
        let k = g.kind-le in
        sized-more (1 + (1 + (1 + (4 * most_settings + 99 * length ts)))) (suc (suc (suc (most_settings + 27 * length ts)))) _ _ _
        (omega arith) (omega arith)
        (sized-one 1 _ _ r.i _ (omega (arith, size_1 r.i (omega arith))) (omega arith)
        (sized-one 1 _ _ r.j _ (omega (arith, size_1 r.j (omega arith))) (omega arith)
        (sized-one 1 _ _ r.kind _ (omega (arith, size_1 r.kind (omega arith))) (omega arith)
        (sized-append _ _ _ _ r.values (rules_numbers ts) (sized-values n d r h (omega arith) b g.numbers) (go _ ts t)))))

sized-triples : (n floor : ℕ) (ts : List Triple) → n ≤ most_fields → Tripled n floor ts
    → Sized (6 * length ts) (4 * length ts) (triples_numbers ts)
unfolding triples_numbers
sized-triples n floor ts m tripled-none = sized-none
sized-triples n floor ts m (tripled-one {t = t} {ts = us} l g r) =
    let a = g.apart in
    let b = g.above in
    let w = g.within in
    let c = g.amount_le in
    sized-more (1 + (1 + (1 + (3 + 6 * length us)))) (suc (suc (suc (suc (4 * length us))))) _ _ _ (omega arith) (omega arith)
    (sized-one 1 _ _ t.i _ (omega (arith, size_1 t.i (omega arith))) (omega arith)
    (sized-one 1 _ _ t.j _ (omega (arith, size_1 t.j (omega arith))) (omega arith)
    (sized-one 1 _ _ t.k _ (omega (arith, size_1 t.k (omega arith))) (omega arith)
    (sized-one 3 _ _ t.c _ (setting-groups t.c c) (omega arith) (sized-triples n _ us m r)))))

-- the count of triples and the triples
sized-part : (n : ℕ) (ts : List Triple) → n ≤ most_fields → length ts ≤ most_triples → Tripled n 0 ts
    → Sized (1 + 6 * most_triples) (1 + 4 * most_triples) (triples_part ts)
unfolding triples_part
sized-part n [] m few r = sized-more 0 0 _ _ _ (omega arith) (omega arith) sized-none
sized-part n (t ∷ ts) m few r =
    sized-more (1 + 6 * length (t ∷ ts)) (suc (4 * length (t ∷ ts))) _ _ _ (omega arith) (omega arith)
    (sized-one 1 _ _ (length (t ∷ ts)) _ (omega (arith, size_1 (length (t ∷ ts)) (omega arith))) (omega arith)
    (sized-triples n 0 (t ∷ ts) m r))

sized-sheet : (s : Sheet) → Right s → Sized most_bytes most_numbers (sheet_numbers s)
unfolding sheet_numbers
sized-sheet s g =
    let w = g.few in
    let m = g.rules-few in
    let a = g.reach_few in
    sized-more (1 + (73 * length s.fields + (1 + (2 + (99 * length s.rules + (1 + 6 * most_triples))))))
    (suc (25 * length s.fields + suc (suc (27 * length s.rules + (1 + 4 * most_triples))))) _ _ _ (omega arith) (omega arith)
    (sized-one 1 _ _ (length s.fields) _ (omega (arith, size_1 (length s.fields) (omega arith))) (omega arith)
    (sized-append _ _ _ _ (fields_numbers s.fields) _ (sized-fields s.fields g.field)
    (sized-one 1 _ _ s.reach _ (omega (arith, size_1 s.reach (omega arith))) (omega arith)
    (sized-one 2 _ _ (length s.rules) _ (groups-two (length s.rules) (omega arith)) (omega arith)
    (sized-append _ _ _ _ (rules_numbers s.rules) (triples_part s.triples)
    (sized-rules (length s.fields) 0 (counted s) s.rules w (λ k h. (g.field k h).few) g.ruled)
    (sized-part (length s.fields) s.triples w g.triples-few g.tripled))))))

pub sized_in : (xs : List ℕ) → Accepted xs → Sized most_bytes most_numbers xs
sized_in xs e = let t = sheet-in xs e in rw t.split (sized-sheet t.sheet t.right)
