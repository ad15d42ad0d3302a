-- How a line of a report is written: its fields, parted by one space each, and a linefeed.
-- Numbers are decimal, without leading zeros, those of nodes, parts, editors and indices below 2^32, versions and
-- counts below 2^64, lengths and positions, in units of 1/64 px, below 2^62 in absolute value.
use Rattle.std.specs.Prelude.{ℕ, ◌^◌, ◌<◌, ◌≤◌, List, [], ◌∷◌, ◌++◌, codes, Option, Some, None}
use Rattle.std.specs.List.{join_with_byte}
use Rattle.std.specs.Fmt.{decimal, signed_decimal}
use Rattle.lay_frag.specs.declared.frag.Frag.{Frag}
use Rattle.lay_frag.specs.Lines.{kind_word}
use Rattle.lay_frag.specs.Pieces.{IsRectInRange}
use Rattle.lay_drawing.specs.declared.line.EditReply.{EditReply}
use Rattle.lay_drawing.specs.declared.line.EditReply.TheVariants.{Accepted, Refused, NoMemory}
use Rattle.lay_drawing.specs.declared.line.Line.{Line}
use Rattle.lay_drawing.specs.declared.line.Line.TheVariants.{Edit, Publish, Latest, Sync, Final, Laid, Piece}

-- the place of an edit, where it is one of several
abbrev pub place_fields : Option ℕ → List (List ℕ)
place_fields (Some place) = codes "at" ∷ decimal place ∷ []
place_fields None = []

abbrev pub reply_fields : EditReply → List (List ℕ)
reply_fields (Accepted version) = codes "accepted" ∷ decimal version ∷ []
reply_fields (Refused fault place) = codes "refused" ∷ (69 ∷ decimal fault) ∷ place_fields place
reply_fields NoMemory = codes "nomemory" ∷ []

-- the version that was shown, or that memory ran out
abbrev pub shown_field : Option ℕ → List ℕ
shown_field (Some version) = decimal version
shown_field None = codes "nomemory"

abbrev pub line_fields : Line → List (List ℕ)
line_fields (Edit editor index reply) = codes "edit" ∷ decimal editor ∷ decimal index ∷ reply_fields reply
line_fields (Publish version) = codes "publish" ∷ decimal version ∷ []
line_fields (Latest editor index shown) = codes "latest" ∷ decimal editor ∷ decimal index ∷ shown_field shown ∷ []
line_fields (Sync editor index shown) = codes "sync" ∷ decimal editor ∷ decimal index ∷ shown_field shown ∷ []
line_fields (Final version) = codes "final" ∷ decimal version ∷ []
line_fields (Laid count) = codes "laid" ∷ decimal count ∷ []
line_fields (Piece f) =
    kind_word f.kind ∷ decimal f.node.0 ∷ decimal f.part
    ∷ signed_decimal f.rect.x.0 ∷ signed_decimal f.rect.y.0 ∷ signed_decimal f.rect.w.0 ∷ signed_decimal f.rect.h.0 ∷ []

-- the line without its linefeed
abbrev pub line_body : Line → List ℕ
line_body line = join_with_byte 32 (line_fields line)

abbrev pub line_text : Line → List ℕ
line_text line = line_body line ++ 10 ∷ []

abbrev pub IsPlace : Option ℕ → Type 0
IsPlace (Some place) = place < 2 ^ 64
IsPlace None = Unit {0}

-- faults have the numbers from 1 to 11
abbrev pub IsReply : EditReply → Type 0
IsReply (Accepted version) = version < 2 ^ 64
IsReply (Refused fault place) = (1 ≤ fault) × (fault ≤ 11) × IsPlace place
IsReply NoMemory = Unit {0}

abbrev pub IsVersion : Option ℕ → Type 0
IsVersion (Some version) = version < 2 ^ 64
IsVersion None = Unit {0}

abbrev pub IsPiece : Frag → Type 0
IsPiece f = (f.node.0 < 2 ^ 32) × (f.part < 2 ^ 32) × IsRectInRange f.rect

-- the numbers of a line are in their ranges
abbrev pub IsLine : Line → Type 0
IsLine (Edit editor index reply) = (editor < 2 ^ 32) × (index < 2 ^ 32) × IsReply reply
IsLine (Publish version) = version < 2 ^ 64
IsLine (Latest editor index shown) = (editor < 2 ^ 32) × (index < 2 ^ 32) × IsVersion shown
IsLine (Sync editor index shown) = (editor < 2 ^ 32) × (index < 2 ^ 32) × IsVersion shown
IsLine (Final version) = version < 2 ^ 64
IsLine (Laid count) = count < 2 ^ 64
IsLine (Piece f) = IsPiece f
