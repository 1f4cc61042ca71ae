-- The loop that stores a text: what it knows at each turn, and how a turn keeps it.
use mathlib.Core.Path.{◌≡◌, refl, sym, ap, ◌∙◌}
use Prim.Native.Nat.{ℕ, ◌+◌, ◌≤◌, ◌<◌}
use native.Mathlib.Omega.{arith}
use native.Mathlib.Numerals.{add-one}
use mathlib.Core.List.{List, [], ◌∷◌, ◌++◌, append-nil}
use lib.ListN.{length, take, drop, get_or, length-append, take-append-drop}
use lib.Seq.{take-suc, take_all}
use Rattle.format.specs.Pieces.{Stored}
use Rattle.format.proofs.Pieces.{stored-none, stored-then, stored-as, stored-length}
use Rattle.words.specs.Code40.{characters_of, text_of}
use Rattle.words.proofs.Words.{text-append}
use Rattle.decoding.proofs.Judging.{text_at}

-- the text of the words before i is stored, `end` is the place behind it
pub record Putting (ws before : List ℕ) (i end : ℕ) (after : List ℕ) : Type 0 where
  pub inside : i ≤ length ws
  pub kept : length after ≡ length before
  pub text : Stored before 0 (text_of (take i ws)) end after

pub putting-start : (ws before : List ℕ) → Putting ws before 0 0 before
unfolding text_of
putting-start ws before = record { inside = omega arith; kept = refl; text = stored-none before 0 }

-- the text up to a word, and with it
text-on : (ws : List ℕ) (i : ℕ) → i < length ws → text_of (take (i + 1) ws) ≡ text_of (take i ws) ++ characters_of (get_or ws i 0)
unfolding text_of
text-on ws i h =
    let s : List ℕ = characters_of (get_or ws i 0) in
    rw add-one (ap text_of (take-suc ws i 0 h) ∙ text-append (take i ws) (get_or ws i 0 ∷ []) ∙ ap (λ (r : List ℕ). text_of (take i ws) ++ r) (append-nil s))

text-split : (ws : List ℕ) (i : ℕ) → text_of ws ≡ text_of (take i ws) ++ text_of (drop i ws)
text-split ws i = ap text_of (sym (take-append-drop i ws)) ∙ text-append (take i ws) (drop i ws)

module _ {ws before : List ℕ} {i end : ℕ} {after : List ℕ} (p : Putting ws before i end after) (h : i < length ws) (room : length (text_of ws) ≤ length before) where
  -- the word at i has its room
  pub room_at : end + length (characters_of (get_or ws i 0)) ≤ length after
  room_at =
      omega (
        arith,
        p.kept,
        p.text.0,
        ap length (text-split ws i),
        length-append (text_of (take i ws)) (text_of (drop i ws)),
        ap length (text_at ws i h),
        length-append (characters_of (get_or ws i 0)) (text_of (drop (i + 1) ws)),
      )

  pub putting-on : (r : ℕ) (d : List ℕ) → Stored after end (characters_of (get_or ws i 0)) r d → Putting ws before (i + 1) r d
  putting-on r d s =
      let more : List ℕ = characters_of (get_or ws i 0) in
      record {
        inside = omega arith;
        kept = stored-length after more d end r room_at s ∙ p.kept;
        text = stored-as before d _ _ 0 r (sym (text-on ws i h)) (stored-then before after d (text_of (take i ws)) more 0 end r (omega arith) p.text s);
      }

pub putting-all : {ws before : List ℕ} {i end : ℕ} {after : List ℕ} → Putting ws before i end after → length ws ≤ i → Stored before 0 (text_of ws) end after
putting-all {ws} {before} {i} {end} {after} p h = stored-as before after _ _ 0 end (ap text_of (take_all i ws h)) p.text
