-- The three ways out of `put_together`.
use mathlib.Core.Path.{◌≡◌, sym, ap, ◌∙◌}
use Prim.Native.Nat.{ℕ, ◌+◌, ◌≤◌, ◌<◌}
use native.Mathlib.Omega.{arith}
use mathlib.Core.Bool.{true}
use mathlib.Core.List.{List, ◌++◌}
use lib.ListN.{length, get_or}
use Rattle.format.specs.Answers.{got, refused, plain, need}
use Rattle.format.specs.Pieces.{Stored}
use Rattle.std.specs.Prelude.{Ok, Err}
use Rattle.format.specs.Numbers.{reason_number}
use Rattle.format.specs.declared.Reason.{Reason}
use Rattle.format.specs.declared.Reason.TheVariants as reason
use Rattle.format.proofs.Answers.{first-no}
use Rattle.format.proofs.Pieces.{stored-then, stored-as, stored-front}
use Rattle.words.specs.Calls.{Fills}
use Rattle.words.proofs.Outcomes.{answer-short, answer-good, fills-refused, fills-done}
use Rattle.identifier.specs.Elements.{Elements, three, good_elements, identifier_of}
use Rattle.identifier.specs.Calls.{join_steps, joining}
use Rattle.joining.specs.Laying.{isil_front, set_end}
use Rattle.joining.proofs.Good.{good-facts, good-pieces, good_length}

module _ (x i s text : List ℕ) where
  abbrev e : Elements
  e = three x i s

  pub way-bad : {r : Reason} → need 9 (good_elements e) ≡ refused (plain (reason_number r)) → Fills (joining e text) (Err r) text
  unfolding join_steps
  way-bad {r} b = fills-refused (join_steps (length text) e) (identifier_of e) text (first-no (need 9 (good_elements e)) _ _ (plain (reason_number r)) b)

  module _ (good : good_elements e ≡ true) (n : ℕ) (size : n ≡ length (isil_front i) + length x + length (set_end (get_or s 0 0) 0)) where
    counted : n ≡ length (identifier_of e)
    counted = size ∙ sym (good_length x i s (good-facts x i s good))

    pub way-short : length text < n → Fills (joining e text) (Err reason.Room) text
    unfolding join_steps
    way-short h =
        fills-refused (join_steps (length text) e) (identifier_of e) text (answer-short 9 (good_elements e) (length text) (identifier_of e) good (omega (arith, counted)))

    -- three pieces, one behind the other
    pub way-done : (a b after : List ℕ) (p q r : ℕ) → n ≤ length text → Stored text 0 (isil_front i) p a → Stored a p x q b → Stored b q (set_end (get_or s 0 0) (get_or s 2 0)) r after
        → Fills (joining e text) (Ok n) after
    unfolding join_steps
    way-done a b after p q r h u v w =
        let all = stored-then text b after (isil_front i ++ x) _ 0 q r (omega arith) (stored-then text a b (isil_front i) x 0 p q (omega arith) u v) w in
        fills-done (join_steps (length text) e) (identifier_of e) text after
        (answer-good 9 (good_elements e) (length text) (identifier_of e) good (omega (arith, counted)) ∙ ap got (sym counted))
        (stored-front text after (identifier_of e) r (stored-as text after _ _ 0 r (sym (good-pieces x i s (good-facts x i s good))) all)).1
