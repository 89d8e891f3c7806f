-- `models_list::masks::Masks::holds` meets its contract.
use native.Mathlib.Omega.{arith}
use lib.Bits.{and_le_l}
use Rattle.models_list.proofs.Gathering.{reduct_word}
use Rattle.models_list.proofs.masks.Masks.holds.Goals as goal

pub overflow_sub-result : goal.overflow_sub-result
overflow_sub-result c = omega (arith, and_le_l c.args.self.now.pos c.args.m)

pub returns : goal.returns
returns c = reduct_word c.args.self.now c.args.m
