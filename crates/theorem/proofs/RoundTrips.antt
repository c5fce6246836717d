-- Reading and writing as the library has them, by their own contracts alone, and the round trips over them.
--     ReadCalled, WriteCalled           a call of `belaykeel_read`, and of `belaykeel_write`
--     read-answered, write-answered     each contract is 01's reading, and writing
--     every-read, every-write           a call that answers as its contract says is one of them
--     read_public, write_public         both functions are `Public`
--     read-exact                        the bytes that were read are those of the numbers, for every sheet
--     read-then-write                   they are written again, for a sheet without the retired kind, where there is room for them
--     read-then-refused                 the numbers of another sheet are refused by 20
--     write-then-read                   the numbers that were written are read, where there is room for them
--     write-retired, retired-write      a list is refused by 20 just where its first fault is the retired kind
use mathlib.Core.Path.{◌≡◌, refl, ap, ◌∙◌}
use mathlib.Core.Bool.{true, false}
use mathlib.Core.List.{List}
use Prim.Native.Nat.{ℕ}
use native.Mathlib.Omega.{arith}
use lib.ListN.{take}
use borrow.Fn.Kinds.{Dens, ended_of}
use contract.Lifetimes.{Lfts}
use denote.Triple.Clauses.{AtExit}
use Rattle.limits.specs.Refusals.{RETIRED}
use Rattle.sheet.specs.declared.answer.Answer.{Answer}
use Rattle.sheet.specs.Sources.{refusal, numbers, of_bytes, bytes_of, Gives, produced, refusing, reading, retired, writer_refusal, writing}
use Rattle.accepted.specs.Theorems.{exact, read-written_in, read-refused, written-read_in}
use Rattle.accepted.specs.FirstFault.{FirstFaultRetired, refused-retired, retired-refused}
use Rattle.accepted.specs.Produces.{front_of, refused-by, refuses}
use Rattle.belaykeel.specs.contracts.belaykeel_read
use Rattle.belaykeel.proofs.belaykeel_read as read-proved
use Rattle.belaykeel.proofs.belaykeel_read.Kinds as read-kinds
use Rattle.belaykeel.proofs.belaykeel_read.Reads as read-reads
use Rattle.belaykeel.specs.contracts.belaykeel_write
use Rattle.belaykeel.proofs.belaykeel_write as write-proved
use Rattle.belaykeel.proofs.belaykeel_write.Kinds as write-kinds
use Rattle.belaykeel.proofs.belaykeel_write.Reads as write-reads
use Rattle.theorem.specs.EveryCall.{lends, lends_mut}
use Rattle.theorem.proofs.Outer.{Public}

-- the source, the output before the call, its answer, and the output after it
pub data ReadCalled : (sheet before : List ℕ) (r : Answer) (after : List ℕ) → Type 0 where
  by_read : (κs : Lfts 2) (a : Dens κs read-kinds.ps) (r : Answer) (e : AtExit (ended_of 2 read-kinds.ps read-kinds.r) κs)
      → read-reads.Learnt κs a r e → ReadCalled a.0.now a.1.0.now r e.1.0.now

pub data WriteCalled : (numbers before : List ℕ) (r : Answer) (after : List ℕ) → Type 0 where
  by-write : (κs : Lfts 2) (a : Dens κs write-kinds.ps) (r : Answer) (e : AtExit (ended_of 2 write-kinds.ps write-kinds.r) κs)
      → write-reads.Learnt κs a r e → WriteCalled a.0.now a.1.0.now r e.1.0.now

pub read-answered : {sheet before : List ℕ} {r : Answer} {after : List ℕ} → ReadCalled sheet before r after
    → Gives (reading sheet before) r after
read-answered (by_read κs a r e h) = h

pub write-answered : {numbers before : List ℕ} {r : Answer} {after : List ℕ} → WriteCalled numbers before r after
    → Gives (writing numbers before) r after
write-answered (by-write κs a r e h) = h

pub every-read : Lfts 2 → (sheet before : List ℕ) (r : Answer) (after : List ℕ) → Gives (reading sheet before) r after
    → ReadCalled sheet before r after
every-read κs sheet before r after h = by_read κs (lends sheet, (lends_mut before, tt)) r (lends sheet, (lends_mut after, tt)) h

pub every-write : Lfts 2 → (numbers before : List ℕ) (r : Answer) (after : List ℕ) → Gives (writing numbers before) r after
    → WriteCalled numbers before r after
every-write κs numbers before r after h = by-write κs (lends numbers, (lends_mut before, tt)) r (lends numbers, (lends_mut after, tt)) h

pub read_public : Public belaykeel_read.ended (λ M 𝓤. belaykeel_read.clauses) read-proved.Symbol.code read-proved.Symbol.name
read_public = record {
  free = λ κs a w. (tt, refl);
  kept = λ w. read-proved.Met.met w.𝓤 w.𝓛 w.𝓜 w.𝓡;
}

pub write_public : Public belaykeel_write.ended (λ M 𝓤. belaykeel_write.clauses) write-proved.Symbol.code write-proved.Symbol.name
write_public = record {
  free = λ κs a w. (tt, refl);
  kept = λ w. write-proved.Met.met w.𝓤 w.𝓛 w.𝓜 w.𝓡;
}

-- ---- the round trips, for whatever room each call is lent: where it is too short, 6 and nothing written

-- Read to a list: its bytes are those that were read.
pub read-exact : {sheet list list' : List ℕ} {r : Answer} → ReadCalled sheet list r list' → r.number ≡ 0
    → bytes_of (take r.length list') ≡ sheet
read-exact {sheet} {list} {list'} {r} c z =
    let f = front_of (refusal (of_bytes sheet)) (numbers (of_bytes sheet)) list r list' z (read-answered c) in
    ap bytes_of f.values-first ∙ exact sheet f.unrefused

-- Read to a list without the retired kind, and that list written: the same bytes.
pub read-then-write : {sheet list list' bytes bytes' : List ℕ} {r w : Answer}
    → ReadCalled sheet list r list' → r.number ≡ 0 → retired (take r.length list') ≡ false
    → WriteCalled (take r.length list') bytes w bytes' → Gives (produced 0 sheet bytes) w bytes'
read-then-write {sheet} {list} {list'} {bytes} {bytes'} {r} {w} c z h d =
    let f = front_of (refusal (of_bytes sheet)) (numbers (of_bytes sheet)) list r list' z (read-answered c) in
    let g : Gives (writing (take r.length list') bytes) w bytes' = write-answered d in
    rw (read-written_in sheet bytes f.unrefused (rw f.values-first at h)) at (rw f.values-first at g)

-- Read to a list with it, and that list to be written: 20, and nothing is.
pub read-then-refused : {sheet list list' bytes bytes' : List ℕ} {r w : Answer}
    → ReadCalled sheet list r list' → r.number ≡ 0 → retired (take r.length list') ≡ true
    → WriteCalled (take r.length list') bytes w bytes' → Gives (refusing RETIRED bytes) w bytes'
read-then-refused {sheet} {list} {list'} {bytes} {bytes'} {r} {w} c z h d =
    let f = front_of (refusal (of_bytes sheet)) (numbers (of_bytes sheet)) list r list' z (read-answered c) in
    let g : Gives (writing (take r.length list') bytes) w bytes' = write-answered d in
    rw (read-refused sheet bytes (rw f.values-first at h)) at (rw f.values-first at g)

-- A list written, and its bytes read: the same numbers.
pub write-then-read : {numbers bytes bytes' list list' : List ℕ} {w r : Answer}
    → WriteCalled numbers bytes w bytes' → w.number ≡ 0 → ReadCalled (take w.length bytes') list r list'
    → Gives (produced 0 numbers list) r list'
write-then-read {numbers} {bytes} {bytes'} {list} {list'} {w} {r} c z d =
    let f = front_of (writer_refusal numbers) (bytes_of numbers) bytes w bytes' z (write-answered c) in
    let g : Gives (reading (take w.length bytes') list) r list' = read-answered d in
    rw (written-read_in numbers list f.unrefused) at (rw f.values-first at g)

-- ---- 20, just where the first fault of the list is the retired kind

pub write-retired : {numbers bytes bytes' : List ℕ} {w : Answer} → WriteCalled numbers bytes w bytes' → w.number ≡ RETIRED
    → FirstFaultRetired numbers
write-retired {numbers} {bytes} {bytes'} {w} c z =
    refused-retired numbers
    (refused-by (writer_refusal numbers) (bytes_of numbers) bytes w bytes' (λ q. omega arith) (λ q. omega arith) (write-answered c) ∙ z)

pub retired-write : {numbers bytes bytes' : List ℕ} {w : Answer} → WriteCalled numbers bytes w bytes'
    → FirstFaultRetired numbers → Gives (refusing RETIRED bytes) w bytes'
retired-write {numbers} {bytes} {bytes'} {w} c t =
    let g : Gives (writing numbers bytes) w bytes' = write-answered c in
    let e = retired-refused numbers t in
    rw (ap (λ (k : ℕ). produced k (bytes_of numbers) bytes) e ∙ refuses RETIRED (bytes_of numbers) bytes (λ q. omega arith)) at g
