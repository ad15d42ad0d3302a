-- The one line that says why bytes are refused: the first fault of the run document with its field and its place.
use Rattle.std.specs.Prelude.{ℕ, List, ◌++◌, codes, Bool, if◌then◌else◌}
use Rattle.std.specs.Fmt.{decimal}
use Rattle.lay_json.specs.declared.fault.Field.{Field}
use Rattle.lay_json.specs.declared.fault.Spot.{Spot}
use Rattle.lay_json.specs.declared.fault.Spot.TheVariants.{Run, Node, Command}
use Rattle.lay_json.specs.declared.fault.InputFault.{InputFault}
use Rattle.lay_json.specs.declared.fault.InputFault.TheVariants.{TooLong, BadJson, Missing, WrongKind, BadNumber, BadNode, BadDecl}
use Rattle.lay_json.specs.declared.fault.InputFault.TheVariants.{TooManyEditors, TooManyCommands, BatchTooLong, TooManySelectors}
use Rattle.lay_json.specs.declared.fault.InputFault.TheVariants.{NoMemory}
use Rattle.lay_json.specs.Fields.{field_name}
use Rattle.lay_report.specs.Report.{fault_number}

abbrev pub spot_text : Spot → List ℕ
spot_text Run = codes "run"
spot_text (Node k) = codes "node " ++ decimal k
spot_text (Command editor index) = codes "command " ++ decimal editor ++ codes " " ++ decimal index

-- a fault of a field, by its word
abbrev pub field_text : List ℕ → Field → Spot → List ℕ
field_text word f place = word ++ field_name f ++ codes " " ++ spot_text place

-- of a declaration, whether its property is unknown, or its text is none of the property's values
abbrev pub value_fault : Bool → List ℕ
value_fault known = if known then codes " V2" else codes " V1"

-- memory that ran out has no line
abbrev pub fault_text : InputFault → List ℕ
fault_text TooLong = codes "I1"
fault_text BadJson = codes "I2"
fault_text (Missing f place) = field_text (codes "I3 ") f place
fault_text (WrongKind f place) = field_text (codes "I4 ") f place
fault_text (BadNumber f place) = field_text (codes "I9 ") f place
fault_text (BadNode k fault) = codes "I5 " ++ decimal k ++ codes " E" ++ decimal (fault_number fault)
fault_text (BadDecl k known) = codes "I6 " ++ decimal k ++ value_fault known
fault_text TooManyEditors = codes "I7"
fault_text TooManyCommands = codes "I8"
fault_text (BatchTooLong editor index) = codes "I10 " ++ decimal editor ++ codes " " ++ decimal index
fault_text TooManySelectors = codes "I11"
fault_text NoMemory = codes ""

abbrev pub fault_line : InputFault → List ℕ
fault_line fault = codes "refused " ++ fault_text fault ++ codes "\n"
