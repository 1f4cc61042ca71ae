-- What the loop over the fields knows at each turn, and how a turn keeps it.
use mathlib.Core.Path.{◌≡◌, refl, sym, ◌∙◌}
use Prim.Native.Nat.{ℕ, suc, ◌+◌, ◌-◌, ◌≤◌, ◌<◌}
use native.Mathlib.Omega.{arith}
use native.Mathlib.Nat.{sub-zero}
use native.Mathlib.Numerals.{add-one}
use mathlib.Core.List.{List, ◌++◌, append-nil, map}
use lib.ListN.{length, take, drop, set, length-set}
use lib.Seq.{take-suc-set, take_all, append_snoc}
use Rattle.format.specs.Bytes.{up_to, past}
use Rattle.format.specs.Chain.{fields_in, beyond}
use Rattle.fields.proofs.Places.{past-drop}

-- the first k of n lengths are in place, the other fields are those of the rest
pub record Finding (s : List ℕ) (n : ℕ) (lens rest : List ℕ) (k : ℕ) : Type 0 where
  pub places : length lens ≡ n
  pub filled : take k lens ++ map length (fields_in (n - k) rest) ≡ map length (fields_in n s)
  pub left : beyond (n - k) rest ≡ beyond n s

pub finding-start : (s lens : List ℕ) → Finding s (length lens) lens s 0
finding-start s lens = record { places = refl; filled = rw sub-zero refl; left = rw sub-zero refl }

module _ {s lens rest : List ℕ} {n k : ℕ} (f : Finding s n lens rest k) where
  pub finding-on : (field more : List ℕ) → field ≡ up_to 0 rest → more ≡ drop (length field + 1) rest → k < length lens
      → Finding s n (set lens k (length field)) more (k + 1)
  unfolding fields_in beyond
  finding-on field more e d h =
      let m : n - k ≡ suc (n - suc k) = omega (arith, f.places) in
      let p : more ≡ past 0 rest = rw e at d ∙ sym (past-drop 0 rest) in
      record {
        places = length-set lens k (length field) ∙ f.places;
        filled = rw (add-one, take-suc-set lens k (length field) h, append_snoc, p, e) (rw m at f.filled);
        left = rw (add-one, p) (rw m at f.left);
      }

  pub finding-end : length lens ≤ k → (lens ≡ map length (fields_in n s)) × (rest ≡ beyond n s)
  unfolding fields_in beyond
  finding-end h =
      let m : n - k ≡ 0 = omega (arith, f.places) in
      (rw (m, append-nil, take_all k lens h) at f.filled, rw m at f.left)
