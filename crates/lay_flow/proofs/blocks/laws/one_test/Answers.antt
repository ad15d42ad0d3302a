use Rattle.lay_flow.proofs.BlocksLemmas.OneTest.{one_test_lem}
use Rattle.lay_flow.proofs.blocks.laws.one_test.Goals as goal

pub returns : goal.returns
returns c = one_test_lem
