-- Pieces that are stored one behind the other: what is there so far, and what is to come.
use mathlib.Core.Path.{◌≡◌, refl, ap, ◌∙◌}
use Prim.Native.Nat.{ℕ, ◌+◌, ◌≤◌}
use native.Mathlib.Omega.{arith}
use mathlib.Core.List.{List, [], ◌∷◌}
use lib.ListN.{length, length-append}
use Rattle.format.specs.Bytes.{joined}
use Rattle.format.specs.Pieces.{Stored}
use Rattle.format.proofs.Pieces.{stored-none, stored-length, stored-then}

-- The buffer was `before` and is `out`. Where the pieces ps are stored from byte `at` on, `whole` is stored from byte `start` on.
pub record Storing (before : List ℕ) (start : ℕ) (whole out : List ℕ) (ps : List (List ℕ)) (at : ℕ) : Type 0 where
  pub same : length out ≡ length before
  pub room : at + length (joined ps) ≤ length out
  pub on : (r : ℕ) (d : List ℕ) → Stored out at (joined ps) r d → Stored before start whole r d

pub storing-start : {before : List ℕ} {start : ℕ} {whole : List ℕ} (ps : List (List ℕ)) → joined ps ≡ whole → start + length whole ≤ length before → Storing before start whole before ps start
storing-start ps e h = record { same = refl; room = rw e h; on = λ r d s. rw e at s }

module _ {before : List ℕ} {start : ℕ} {whole out : List ℕ} {ps : List (List ℕ)} {at : ℕ} (w : Storing before start whole out ps at) where
  pub storing-end : ps ≡ [] → Stored before start whole at out
  unfolding joined
  storing-end e = w.on at out (rw e (stored-none out at))

  module _ {p : List ℕ} {qs : List (List ℕ)} (e : ps ≡ p ∷ qs) where
    long : length (joined ps) ≡ length p + length (joined qs)
    unfolding joined
    long = ap (λ (x : List (List ℕ)). length (joined x)) e ∙ length-append p (joined qs)

    -- the next piece has room
    pub next-room : at + length p ≤ length out
    next-room = omega (arith, w.room, long)

    pub storing-next : {m : ℕ} {d : List ℕ} → Stored out at p m d → Storing before start whole d qs m
    unfolding joined
    storing-next {m} {d} s =
        let l = stored-length out p d at m next-room s in
        record {
          same = l ∙ w.same;
          room = omega (arith, l, s.0, w.room, long);
          on = λ r f u. w.on r f (rw e (stored-then out d f p (joined qs) at m r (omega (arith, next-room)) s u));
        }
