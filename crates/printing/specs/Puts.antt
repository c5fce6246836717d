-- Bytes written one part after the other. Assumes nothing.
use Rattle.std.specs.Prelude.{◌≡◌, refl, List, [], ◌∷◌, ◌++◌, ℕ, ◌+◌, ◌<◌, length, take, get_or, set}
use Rattle.std.proofs.Common.{sym, ap, ◌∙◌, add-zero, zero-add, add-one, arith, length-append, take-suc}
use Rattle.std.proofs.lemmas.List.Edits.{sets}
use Rattle.std.proofs.Math.Seq.{length-sets}
use Rattle.groups.specs.Storing.{storing_none, storing_part}

-- The bytes are written over `before` from a place on; `next` is the place after them.
pub record Puts (before : List ℕ) (place : ℕ) (bytes : List ℕ) (next : ℕ) (after : List ℕ) : Type 0 where
  pub ends : next ≡ place + length bytes
  pub written : after ≡ sets before place bytes

pub puts_none : (o : List ℕ) (p : ℕ) → Puts o p [] p o
puts_none o p = record { ends = sym (add-zero p); written = refl }

pub puts_one : (o : List ℕ) (p b : ℕ) → Puts o p (b ∷ []) (p + 1) (set o p b)
puts_one o p b = record { ends = refl; written = refl }

pub puts_then : {o : List ℕ} {p : ℕ} {a : List ℕ} {q : ℕ} {o' b : List ℕ} {r : ℕ} {o'' : List ℕ}
    → Puts o p a q o' → Puts o' q b r o'' → Puts o p (a ++ b) r o''
puts_then {o} {p} {a} {q} {o'} {b} g h = record {
  ends = omega (arith, g.ends, h.ends, length-append a b);
  written = h.written ∙ rw (g.written, g.ends) (storing_part a _ refl refl (storing_none o p (a ++ b))).stored;
}

-- one byte more of a list
pub puts_next : {o : List ℕ} {p q : ℕ} {o' : List ℕ} (l : List ℕ) (k : ℕ) → k < length l
    → Puts o p (take k l) q o' → Puts o p (take (k + 1) l) (q + 1) (set o' q (get_or l k 0))
puts_next l k h g = rw (add-one k, take-suc l k 0 h) (puts_then g (puts_one _ _ _))

pub puts_size : {o : List ℕ} {p : ℕ} {a : List ℕ} {q : ℕ} {o' : List ℕ} → Puts o p a q o' → length o' ≡ length o
puts_size {o} {p} {a} g = ap length g.written ∙ length-sets o p a

-- the same bytes by another name
pub puts_as : {o : List ℕ} {p : ℕ} {a b : List ℕ} {q : ℕ} {o' : List ℕ} → a ≡ b → Puts o p a q o' → Puts o p b q o'
puts_as e g = rw (sym e) g

-- from the front on
pub puts_front : {o a : List ℕ} {q : ℕ} {o' : List ℕ} → Puts o 0 a q o' → (q ≡ length a) × (o' ≡ sets o 0 a)
puts_front {o} {a} g = (g.ends ∙ zero-add (length a), g.written)
