-- Answers of the code that mean the same are the same.
use mathlib.Core.Path.{◌≡◌, refl, sym, ap, ap₂, ◌∙◌}
use Prim.Native.Nat.{ℕ}
use Rattle.std.specs.Prelude.{Result, Ok, Err, eqb, if◌then◌else◌}
use Rattle.format.specs.Answers.{Refusal, plain, placed}
use Rattle.format.specs.Numbers.{reason_number, damage_number, refusal_given, given, told}
use Rattle.format.specs.declared.Reason.{Reason}
use Rattle.format.specs.declared.Reason.TheVariants as reason
use Rattle.format.specs.declared.Damage.{Damage}
use Rattle.format.specs.declared.Damage.TheVariants as block
use Rattle.format.specs.declared.Refusal as code
use Rattle.format.specs.declared.Refusal.TheVariants as refusal
use Rattle.format.proofs.Tests.{never}
use Rattle.format.proofs.Answers.{got-inj, refused-inj}

-- the way back from the numbers
reason_of : ℕ → Reason
reason_of n =
    if eqb n 1 then reason.Size else
    if eqb n 2 then reason.Room else
    if eqb n 3 then reason.Content else
    if eqb n 4 then reason.Check else
    if eqb n 6 then reason.Field else
    if eqb n 7 then reason.Mismatch else
    if eqb n 8 then reason.Sheet else
    if eqb n 9 then reason.Value else
    if eqb n 10 then reason.Clash else
    if eqb n 11 then reason.Large else
    if eqb n 12 then reason.Locked else
    if eqb n 13 then reason.Loose else
    if eqb n 14 then reason.Offset else
    if eqb n 20 then reason.Word else
    if eqb n 21 then reason.Character else
    if eqb n 22 then reason.Parts else
    reason.Bank

damage_of : ℕ → Damage
damage_of n =
    if eqb n 15 then block.Length else
    if eqb n 16 then block.End else
    if eqb n 17 then block.Id else
    if eqb n 18 then block.Checksum else
    block.Second

reason-back : (r : Reason) → reason_of (reason_number r) ≡ r
unfolding reason_of
reason-back reason.Size = refl
reason-back reason.Room = refl
reason-back reason.Content = refl
reason-back reason.Check = refl
reason-back reason.Field = refl
reason-back reason.Mismatch = refl
reason-back reason.Sheet = refl
reason-back reason.Value = refl
reason-back reason.Clash = refl
reason-back reason.Large = refl
reason-back reason.Locked = refl
reason-back reason.Loose = refl
reason-back reason.Offset = refl
reason-back reason.Word = refl
reason-back reason.Character = refl
reason-back reason.Parts = refl
reason-back reason.Bank = refl

damage-back : (d : Damage) → damage_of (damage_number d) ≡ d
unfolding damage_of
damage-back block.Length = refl
damage-back block.End = refl
damage-back block.Id = refl
damage-back block.Checksum = refl
damage-back block.Second = refl

reason-same : (r q : Reason) → reason_number r ≡ reason_number q → r ≡ q
reason-same r q e = sym (reason-back r) ∙ ap reason_of e ∙ reason-back q

damage-same : (d f : Damage) → damage_number d ≡ damage_number f → d ≡ f
damage-same d f e = sym (damage-back d) ∙ ap damage_of e ∙ damage-back f

-- the number and the place of a refusal
number-in : Refusal → ℕ
number-in (plain k) = k
number-in (placed k p) = k

place-in : Refusal → ℕ
place-in (plain k) = 0
place-in (placed k p) = p

pub refusal-same : (x y : code.Refusal) → refusal_given x ≡ refusal_given y → x ≡ y
unfolding number-in place-in
refusal-same (refusal.Plain r) (refusal.Plain q) e = ap refusal.Plain (reason-same r q (ap number-in e))
refusal-same (refusal.Plain r) (refusal.Placed d p) e = never (cc)
refusal-same (refusal.Placed d p) (refusal.Plain r) e = never (cc)
refusal-same (refusal.Placed d p) (refusal.Placed f q) e = ap₂ refusal.Placed (damage-same d f (ap number-in e)) (ap place-in e)

pub given-same : {A : Type 0} (r q : Result A Reason) → given r ≡ given q → r ≡ q
unfolding number-in
given-same (Ok a) (Ok b) e = ap Ok (got-inj e)
given-same (Ok a) (Err q) e = never (cc)
given-same (Err r) (Ok b) e = never (cc)
given-same (Err r) (Err q) e = ap Err (reason-same r q (ap number-in (refused-inj e)))

pub told-same : {A : Type 0} (r q : Result A code.Refusal) → told r ≡ told q → r ≡ q
told-same (Ok a) (Ok b) e = ap Ok (got-inj e)
told-same (Ok a) (Err y) e = never (cc)
told-same (Err x) (Ok b) e = never (cc)
told-same (Err x) (Err y) e = ap Err (refusal-same x y (refused-inj e))
