-- The loop that counts characters: what it knows at each turn, and how a turn keeps it.
use Rattle.std.specs.Prelude.{None, Some}
use mathlib.Core.Path.{◌≡◌, refl, sym, ap}
use Prim.Native.Nat.{ℕ, ◌+◌, ◌*◌, ◌≤◌, ◌<◌}
use native.Mathlib.Nat.{zero-add}
use native.Mathlib.Omega.{arith}
use mathlib.Core.Bool.{true, false, not}
use mathlib.Core.List.{List, [], ◌∷◌, ◌++◌}
use lib.ListN.{length, drop, get_or, length-append, drop_of_length-le}
use Rattle.format.specs.Bytes.{all, is_empty}
use Rattle.format.proofs.Strings.{rest-opened}
use Rattle.format.proofs.Tests.{never}
use Rattle.format.proofs.Passing.{Passing, passing-start, passing-on, passing-not, passing-all}
use Rattle.words.specs.Code40.{characters_of, meaningful, text_of}
use Rattle.words.specs.Meaning.{nothing, word}
use Rattle.words.proofs.Meanings.{read-means, says-few}
use Rattle.decoding.specs.Counting.{counted}

-- the words before i have a meaning, and n characters; these are so few that their number fits
pub record Judging (ws : List ℕ) (i n : ℕ) : Type 0 where
  pub meant : Passing meaningful ws i
  pub few : n ≤ 3 * i
  pub counted : n + length (text_of (drop i ws)) ≡ length (text_of ws)

pub judging-start : (ws : List ℕ) → Judging ws 0 0
judging-start ws = record { meant = passing-start meaningful ws; few = omega arith; counted = zero-add (length (text_of ws)) }

-- the text of what is left
pub text_at : (ws : List ℕ) (i : ℕ) → i < length ws → text_of (drop i ws) ≡ characters_of (get_or ws i 0) ++ text_of (drop (i + 1) ws)
unfolding text_of
text_at ws i h = ap text_of (rest-opened ws i h)

-- characters that are counted are there, and none are not
counted-there : (s : List ℕ) {k : ℕ} → counted s ≡ Some k → (not (is_empty s) ≡ true) × (k ≡ length s)
unfolding counted
counted-there [] e = never (cc)
counted-there (x ∷ s) e = (refl, cc)

counted-none : (s : List ℕ) → counted s ≡ None → not (is_empty s) ≡ false
unfolding counted
counted-none [] e = refl
counted-none (x ∷ s) e = never (cc)

-- a word that has a meaning has three characters at most
three-most : (w : ℕ) → meaningful w ≡ true → length (characters_of w) ≤ 3
three-most w t = let few = says-few (word (read-means w t) nothing) in omega (arith, length-append (characters_of w) [])

module _ {ws : List ℕ} {i n : ℕ} (j : Judging ws i n) (h : i < length ws) where
  -- the word at i has k characters
  pub judging-on : {k : ℕ} → counted (characters_of (get_or ws i 0)) ≡ Some k → Judging ws (i + 1) (n + k)
  judging-on {k} e =
      let w : ℕ = get_or ws i 0 in
      let s : List ℕ = characters_of w in
      let there = counted-there s e in
      record {
        meant = passing-on meaningful ws i j.meant h there.0;
        few = omega (arith, j.few, there.1, three-most w there.0);
        counted = omega (arith, there.1, j.counted, ap length (text_at ws i h), length-append s (text_of (drop (i + 1) ws)));
      }

  -- or it has no meaning
  pub judging-not : counted (characters_of (get_or ws i 0)) ≡ None → all meaningful ws ≡ false
  judging-not e = sym (passing-not meaningful ws i j.meant h (counted-none (characters_of (get_or ws i 0)) e))

pub judging-all : {ws : List ℕ} {i n : ℕ} → Judging ws i n → length ws ≤ i → (all meaningful ws ≡ true) × (n ≡ length (text_of ws))
unfolding text_of
judging-all {ws} {i} {n} j h =
    (sym (passing-all meaningful ws i j.meant h), omega (arith, j.counted, ap (λ (l : List ℕ). length (text_of l)) (drop_of_length-le ws h)))
