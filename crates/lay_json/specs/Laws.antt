-- Laws of the definitions: bytes say one thing, and nodes are counted by the number of nodes before them.
use Rattle.std.specs.Prelude.{ℕ, ◌≡◌, ◌+◌, List, length, Result, Ok}
use Rattle.serde_json.specs.Data.{Data}
use Rattle.lay_doc.specs.declared.node.NodeId.{NodeId}
use Rattle.lay_doc.specs.NewNodes.{NewNodeValue}
use Rattle.lay_doc.specs.Document.{Document}
use Rattle.lay_json.specs.declared.fault.InputFault.{InputFault}
use Rattle.lay_json.specs.Nodes.{document_of_root, put_node}
use Rattle.lay_run.specs.Runs.{Run}
use Rattle.lay_json.specs.declared.sheet_in.SheetIn.{SheetIn}
use Rattle.lay_json.specs.declared.check_in.CheckIn.{CheckIn}
use Rattle.lay_json.specs.Reading.{IsRunReading, AreNames, IsInput, IsCheck, HoldsBoth}

-- bytes have one reading
abbrev pub OneReading : Type 0
OneReading = (bytes : List ℕ) (a b : Result Run InputFault) → IsRunReading bytes a → IsRunReading bytes b → a ≡ b

-- there is one node after the first is read, and one more after each later one
abbrev pub NodesAreCounted : Type 0
NodesAreCounted =
    ((viewport : ℕ × ℕ) (root : NodeId × NewNodeValue) (d : Document) → document_of_root viewport root ≡ Ok d → length d.nodes ≡ 1)
    × ((d e : Document) (x : Data) → put_node d x ≡ Ok e → length e.nodes ≡ length d.nodes + 1)

-- and one reading with a sheet and names
abbrev pub OneInput : Type 0
OneInput =
    ((bytes : List ℕ) (a b : Result SheetIn InputFault) → AreNames bytes a → AreNames bytes b → a ≡ b)
    × ((bytes : List ℕ) (a b : Result (Run × SheetIn) InputFault) → IsInput bytes a → IsInput bytes b → a ≡ b)

-- bytes say one check
abbrev pub OneCheck : Type 0
OneCheck = (bytes : List ℕ) (a b : Result CheckIn InputFault) → IsCheck bytes a → IsCheck bytes b → a ≡ b

-- A run document reads the same by itself and beside a report: the object of both says the run and the sheet that the run
-- document says, with the report.
abbrev pub RunsReadBesideReports : Type 0
RunsReadBesideReports =
    (bytes report both : List ℕ) (run : Run) (sheet : SheetIn) → HoldsBoth bytes report both → IsInput bytes (Ok (run, sheet))
    → IsCheck both (Ok (record { run = run; sheet = sheet; report = report }))
