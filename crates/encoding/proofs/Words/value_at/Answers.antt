-- The table has the value of each character; behind the end there is none.
use mathlib.Core.Path.{◌≡◌, sym}
use Prim.Native.Nat.{◌<◌}
use borrow.Author.Rules.{rules}
use lib.ListN.{length, get_or}
use Rattle.encoding.proofs.Places.{low-at, found_at, none-behind}
use Rattle.encoding.proofs.Words.value_at.Goals as goal

pub bounds-self-from : goal.bounds-self-from
bounds-self-from c =
    let h : c.args.i < length c.args.self.now.text.now = search rules in
    let e : c.in-Some.c.now ≡ get_or c.args.self.now.text.now c.args.i 0 = search rules in
    rw (c.from.ensures, e) (low-at c.args.self.now.text.now c.args.i c.args.self.now.low h)

pub returns-in-Some : goal.returns-in-Some
returns-in-Some c =
    let h : c.args.i < length c.args.self.now.text.now = search rules in
    let e : c.from-in-Some.result ≡ get_or c.args.self.now.values.now (get_or c.args.self.now.text.now c.args.i 0) 0 = search rules in
    rw e (found_at c.args.self.now.values.now c.args.self.now.text.now c.args.i c.args.self.now.marked c.args.self.now.low h)

pub returns-in-None : goal.returns-in-None
returns-in-None c = (sym (none-behind c.args.self.now.text.now c.args.i (search rules)), search rules)
