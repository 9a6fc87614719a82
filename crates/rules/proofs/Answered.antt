-- A refusal's number is not 0, which is an acceptance.
use Rattle.std.proofs.Common.{◌≡◌, arith}
use Rattle.rules.specs.Refusals.{Refusal, refusal_number}

pub not_accepted : (refusal : Refusal) → refusal_number refusal ≡ 0 → ⊥
not_accepted refusal e = grind arith
