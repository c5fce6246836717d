-- The rows of one rule: as they are made, and as they are stored in both tables. Assumes nothing.
use Rattle.std.specs.Prelude.{◌≡◌, ◌&&◌, List, ℕ, ◌+◌, ◌*◌, ◌≤◌, ◌<◌, ltb, length, get_or, set, replicate}
use Rattle.std.proofs.Common.{sym, ap, ◌∙◌, ⊎_elim, eq-or-lt_of_le, arith, length-set, get_or-set_same, get_or-set_other, lt-ltb, ltb-true}
use Rattle.std.proofs.Common.{ltb-false, eq-eqb}
use Rattle.std.proofs.lemmas.List.{length-replicate}
use Rattle.limits.specs.Limits.{most_settings, most_rules, table_words}
use Rattle.masks.specs.Tests.{bool_cases}
use Rattle.masks.specs.Bits.{bit}
use Rattle.masks.proofs.Bits.{bit_high}
use Rattle.masks.specs.Masks.{mask_of, mask_of-lt}
use Rattle.masks.proofs.Masks.{bit-mask_of}
use Rattle.masks.proofs.Loops.{mask-short, mask_cong}
use Rattle.masks.specs.Sets.{get_d_zeros}
use Rattle.masks.specs.Pick.{pick_true}
use Rattle.accepted.specs.Parts.{count_of, first_of, second_of, kind_of, number_of, value_of, rule_allows}
use Rattle.accepted.specs.Facts.{facts}
use Rattle.network.specs.Slots.{slot}
use Rattle.network.specs.Tables.{forward_of, turned_of}
use Rattle.network.specs.Stored.{Stored, words_of, words_of-at, stored-forward, stored-turned, stored-then, stored-before}
use Rattle.network.specs.Stored.{stored_cong, table_lengths}
use Rattle.network.specs.Turned.{Rows, Columns}
use Rattle.network.specs.Built.{row_of, column_of, slot_of}
use Rattle.network.specs.RuleFields.{RuleFields, counts-few, row-past, row_is}

-- The first k words are the rule's rows, the others 0.
pub record RowsTo (xs : List ℕ) (r k : ℕ) (w : List ℕ) : Type 0 where
  pub sized : length w ≡ most_settings
  pub done : (v : ℕ) → v < k → get_or w v 0 ≡ row_of xs r v
  pub rest : (v : ℕ) → k ≤ v → get_or w v 0 ≡ 0

module _ (xs : List ℕ) (r : ℕ) where
  pub rows_start : RowsTo xs r 0 (replicate most_settings 0)
  rows_start =
      record {
        sized = length-replicate {A = ℕ} most_settings 0;
        done = λ v l. absurd (omega arith);
        rest = λ v l. get_d_zeros most_settings v;
      }

  pub rows_next : (k x : ℕ) (w : List ℕ) → k < most_settings → x ≡ row_of xs r k → RowsTo xs r k w → RowsTo xs r (k + 1) (set w k x)
  rows_next k x w b e p = record {
    sized = length-set w k x ∙ p.sized;
    done = λ v l. ⊎_elim (λ (q : v ≡ k). rw q (get_or-set_same w k x 0 (let z = p.sized in omega arith) ∙ e))
        (λ q. get_or-set_other w k v x 0 (λ z. omega arith) ∙ p.done v q) (eq-or-lt_of_le (let j : v ≤ k = omega arith in j));
    rest = λ v l. get_or-set_other w k v x 0 (λ z. omega arith) ∙ p.rest v (omega arith);
  }

-- A rule's rows, in both tables, and nothing else changed.
pub record RuleStored (xs : List ℕ) (r : ℕ) (rows rows' : List ℕ) : Type 0 where
  pub sized : length rows' ≡ length rows
  pub forward : Stored (forward_of rows) (slot_of xs r * most_settings) (row_of xs r) most_settings (forward_of rows')
  pub turned : Stored (turned_of rows) (slot_of xs r * most_settings) (column_of xs r) most_settings (turned_of rows')

module _ (xs : List ℕ) (r place i j : ℕ) (g : RuleFields xs r place i j) where
  -- a rule of kind 0 has its rows as masks
  pub row-mask : (v c : ℕ) → kind_of xs r ≡ 0 → v < count_of xs i → c ≡ number_of xs r v → mask_of most_settings (bit c) ≡ row_of xs r v
  row-mask v c k h e =
      let z = eq-eqb (kind_of xs r) 0 k in
      let n : number_of xs r v ≡ value_of xs r v = pick_true _ _ _ z in
      let m = ((facts xs g.rule.accepted).mask_lt r v g.rule.within k (rw g.first at h)).0 in
      ap (λ (x : ℕ). mask_of most_settings (bit x)) (e ∙ n)
      ∙ mask-short (count_of xs (second_of xs r)) most_settings (bit (value_of xs r v))
      (rw g.second at (counts-few xs r place i j g).1)
      (λ u l. bit_high (count_of xs (second_of xs r)) (value_of xs r v) u m l)
      ∙ mask_cong (count_of xs (second_of xs r)) (bit (value_of xs r v)) (λ u. rule_allows xs r v u)
      (λ u l. sym (pick_true _ _ _ z ∙ ap (λ (x : ℕ). bit x u) n))
      ∙ rw g.second at (row_is xs r place i j g v h)

  module _ (w : List ℕ) (p : RowsTo xs r (count_of xs i) w) where
    row_at : (v : ℕ) → get_or w v 0 ≡ row_of xs r v
    row_at v = ⊎_elim (λ q. p.done v (ltb-true v (count_of xs i) q))
        (λ q. let l = ltb-false v (count_of xs i) q in p.rest v l ∙ row-past xs r place i j g v l)
        (bool_cases (ltb v (count_of xs i)))

    pub rows-rows : Rows w (count_of xs i) (count_of xs j)
    rows-rows = record {
      few = (counts-few xs r place i j g).0;
      narrow = (counts-few xs r place i j g).1;
      past = p.rest;
      low = λ v. rw (row_at v, g.second) (mask_of-lt (count_of xs (second_of xs r)) _);
    }

    column_at : (T : List ℕ) → Columns w (count_of xs i) T → (u : ℕ) → u < most_settings → get_or T u 0 ≡ column_of xs r u
    column_at T c u h = c.at u h ∙ rw g.first (mask_cong (count_of xs (first_of xs r)) _ _ (λ v l.
        ap (λ (x : ℕ). bit x u) (row_at v)
        ∙ bit-mask_of (count_of xs (second_of xs r)) (λ u. ltb v (count_of xs (first_of xs r)) && rule_allows xs r v u) u
        ∙ rw (lt-ltb v (count_of xs (first_of xs r)) l)))

    -- stored one after the other
    pub rule-stored : (s : ℕ) (T rows rows1 rows2 : List ℕ) → s ≡ slot i j → s < most_rules → Columns w (count_of xs i) T
        → Stored rows (s * most_settings) (words_of w) most_settings rows1
        → Stored rows1 (table_words + s * most_settings) (words_of T) most_settings rows2 → RuleStored xs r rows rows2
    rule-stored s T rows rows1 rows2 e b c p q =
        let z : slot_of xs r ≡ s = sym (rw (g.first, g.second) at e) in
        let x = stored-forward rows rows1 (s * most_settings) (words_of w) (omega arith) p in
        let y = stored-turned rows1 rows2 (s * most_settings) (words_of T) q in
        let m = table_lengths rows1 rows p.sized in
        let n = table_lengths rows2 rows1 q.sized in
        record {
          sized = q.sized ∙ p.sized;
          forward = rw z (stored_cong (λ v l. words_of-at w v ∙ row_at v) (stored-then _ _ _ _ _ x.0 n.0 y.1));
          turned = rw z (stored_cong (λ u l. words_of-at T u ∙ column_at T c u l) (stored-before _ _ _ _ _ y.0 m.1 x.1));
        }
