-- The numbers of the program's statuses.
use Rattle.std.specs.Prelude.{ℕ}
use Rattle.lay_report.specs.declared.fault.ReportFault.{ReportFault}
use Rattle.lay_report.specs.declared.fault.ReportFault.TheVariants.{WriteFault as write_fault, NoMemory as ran_out}
use Rattle.lay_cli.specs.declared.status.Status.{Status}
use Rattle.lay_cli.specs.declared.status.Status.TheVariants.{Ok, Refused, Usage, ReadFault, WriteFault, NoMemory}

abbrev pub number_of : Status → ℕ
number_of Ok = 0
number_of Refused = 1
number_of Usage = 2
number_of ReadFault = 3
number_of WriteFault = 4
number_of NoMemory = 5

-- of a report that wasn't written whole
abbrev pub status_of : ReportFault → Status
status_of write_fault = WriteFault
status_of ran_out = NoMemory
