-- `chain::survey_of` meets its contract. The block loop: the survey of what is ahead, with what was found before, is the survey of the tag.
-- The byte loop: the bytes behind byte k, with the XOR so far, come to the XOR of all behind the first.
use mathlib.Core.Path.{◌≡◌}
use Prim.Native.Nat.{◌-◌, ◌≤◌}
use lib.Bits.{bit_xor}
use lib.ListN.{length, drop}
use Rattle.format.specs.Bytes.{xor_all}
use Rattle.chain.proofs.Turns.{SoFar}
use Rattle.chain.proofs.survey_of.Given as goal

abbrev pub invariant-loop-k : goal.invariant-loop-k
invariant-loop-k l = (bit_xor l.x (xor_all (drop l.k l.block)) ≡ xor_all (drop 1 l.block)) × (l.k ≤ length l.block)

abbrev pub invariant-chain : goal.invariant-chain
invariant-chain l = SoFar l.tag l.at l.library l.count l.size

abbrev pub decreases-chain : goal.decreases-chain
decreases-chain l = length l.tag - l.at
