-- `read_full`: what one read gives comes behind what the reads before it gave.
use Rattle.std.proofs.Common.{◌≡◌, ℕ, ◌+◌, ◌-◌, ◌≤◌, List, [], ◌++◌, Option, None, Some, length, take, drop, refl, sym, ap, ◌∙◌, append_assoc, arith}
use Rattle.std.proofs.lemmas.List.{take_at, take-append-le, length-take-le, length-append, append-nil}
use Rattle.std.proofs.Math.Seq.{take-append-add}
use Rattle.std.specs.Io.KnownBytes.{Consumes}
use Rattle.taglist.proofs.read_full.Goals as goal

nothing-read : (o : Option (List ℕ)) → Consumes o o []
nothing-read None = tt
nothing-read (Some xs) = refl

-- p, and then q
read-on : (a b c : Option (List ℕ)) (p q : List ℕ) → Consumes a b p → Consumes b c q → Consumes a c (p ++ q)
read-on None b c p q h k = tt
read-on (Some xs) None c p q h k = absurd h
read-on (Some xs) (Some ys) None p q h k = absurd k
read-on (Some xs) (Some ys) (Some zs) p q h k = h ∙ ap (λ (r : List ℕ). p ++ r) k ∙ sym (append_assoc p q zs)

-- `part` is laid over s from place n on, and its first `count` bytes count
laid : (s part : List ℕ) (n k count : ℕ) → n ≤ length s → count ≤ length part
    → take (n + count) (take n s ++ (part ++ drop k (drop n s))) ≡ take n s ++ take count part
laid s part n k count h l =
    ap (λ (m : ℕ). take (m + count) (take n s ++ (part ++ drop k (drop n s)))) (sym (length-take-le n s h))
    ∙ take-append-add (take n s) (part ++ drop k (drop n s)) count
    ∙ ap (λ (r : List ℕ). take n s ++ r) (take-append-le count part (drop k (drop n s)) l)

-- and there is room for them
room : (s part : List ℕ) (n k count : ℕ) → n ≤ length s → count ≤ length part → n + count ≤ length (take n s ++ (part ++ drop k (drop n s)))
room s part n k count h l =
    simp length-append (omega (arith, length-take-le n s h))

pub loop-filled-init : goal.loop-filled-init
loop-filled-init g c = (omega arith, nothing-read (g.R.Read.remaining c.args.input.now))

pub loop-filled-preserved : goal.loop-filled-preserved
loop-filled-preserved g c =
    let l = c.loop-filled in
    let s : List ℕ = l.buffer in
    let e = laid s c.read.new.buf l.filled (length s - l.filled) c.in_ok-count.count l.invariant.0 c.in_ok-count.ensures.bound.0 in
    (room s c.read.new.buf l.filled (length s - l.filled) c.in_ok-count.count l.invariant.0 c.in_ok-count.ensures.bound.0, rw e (read-on _ _ _ (take l.filled s) _ l.invariant.1 c.in_ok-count.ensures.bytes.0))

pub returns-then-count-eq0-clause-read : goal.returns-then-count-eq0-clause-read
returns-then-count-eq0-clause-read g c =
    let l = c.loop-filled in
    let p : List ℕ = take l.filled l.buffer in
    let none = rw c.if-count-eq0.true at c.in_ok-count.ensures.bytes.0 in
    let all = rw append-nil at (read-on _ _ _ p [] l.invariant.1 none) in
    rw (take_at p _ l.filled (length-take-le l.filled l.buffer l.invariant.0)) all

pub returns-clause-within : goal.returns-clause-within
returns-clause-within g c = c.loop-filled.invariant.0

pub returns-clause-read : goal.returns-clause-read
returns-clause-read g c = c.loop-filled.invariant.1
