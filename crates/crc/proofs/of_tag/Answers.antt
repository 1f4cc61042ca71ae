-- `crc::of_tag`: the bytes that the code takes are those that the CRC covers, and its register comes down from the upper half.
use mathlib.Core.Path.{◌≡◌, refl, sym, ap, ap₂, ◌∙◌}
use mathlib.Core.List.{List, ◌++◌}
use Prim.Native.Nat.{ℕ, ◌-◌, min}
use native.Mathlib.Omega.{arith}
use lib.ListN.{length, take, drop, replicate, length-drop}
use lib.Seq.{take-length}
use Rattle.std.proofs.lemmas.List.{take_min, drop_min, drop-replicate}
use Rattle.format.specs.Bytes.{part, pad, pad_with}
use Rattle.format.specs.Crc.{crc_from, crc, covered}
use Rattle.format.proofs.Crc.{from-append}
use Rattle.crc.specs.Register.{upper, Becomes}
use Rattle.crc.proofs.of_tag.Goals as goal

module _ (t : List ℕ) where
  -- a place behind the end is as good as the end
  front : (k : ℕ) → k ≡ min (length t) 19 → take k t ≡ take 19 t
  front k e = let m : k ≡ min 19 (length t) = omega arith in rw m (take_min 19 t)

  -- o is the owner field, laid on an array z of 00
  owner : (o z : List ℕ) (from to : ℕ) → (let s = take (to - from) (drop from t) in o ≡ take (length s) s ++ drop (length s) z)
      → z ≡ replicate 13 0 → from ≡ min (length t) 21 → to ≡ min (length t) 34 → o ≡ pad 13 (part 21 13 t)
  unfolding pad_with
  owner o z from to laid zeros f e =
      let m : from ≡ min 21 (length t) = omega arith in
      let n : to - from ≡ min 13 (length (drop 21 t)) = omega (arith, length-drop 21 t) in
      let s = take (to - from) (drop from t) in
      let is : s ≡ part 21 13 t = ap₂ take n (ap (λ (k : ℕ). drop k t) m ∙ drop_min 21 t) ∙ take_min 13 (drop 21 t) in
      laid ∙ ap₂ ◌++◌ (take-length s) (ap (drop (length s)) zeros ∙ drop-replicate (length s) 13 0) ∙ ap (pad 13) is

  -- the register over the front f and then over the owner field o, from the start
  covers : (f o : List ℕ) (r q : ℕ) → f ≡ take 19 t → o ≡ pad 13 (part 21 13 t)
      → Becomes 0xFFFF0000 (λ x. crc_from x f) r → Becomes r (λ x. crc_from x o) q → q ≡ upper (crc (covered t))
  unfolding crc covered
  covers f o r q ef eo a b = b _ (a 0xFFFF refl) ∙ ap upper (rw (ef, eo) (sym (from-append 0xFFFF (take 19 t) (pad 13 (part 21 13 t)))))

pub returns : goal.returns
returns c =
    let t = c.args.tag.now in
    let f = front t _ c.min-3.ensures in
    let o = owner t _ _ c.min.result c.min-2.result c.copy.ensures.1 refl c.min.ensures c.min-2.ensures in
    let r = covers t _ _ _ _ f o c.run-front.ensures c.run.ensures in
    omega (arith, r)
