use Rattle.lay_audit.proofs.FaultLaws.{faults_are_refused}
use Rattle.lay_audit.proofs.laws.faults_are_refused.Goals as goal

pub returns : goal.returns
returns c = faults_are_refused
