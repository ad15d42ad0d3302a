-- Lines read back, field by field. What is read is what is written (`specs/Lines.antt`): `one_line_lem` and
-- `line_read_lem` say so.
use Rattle.std.specs.Prelude.{ℕ, ◌^◌, ◌==◌, ◌&&◌, ◌||◌, Bool, not, false, pos, neg_ℤ, List, [], ◌∷◌, length}
use Rattle.std.specs.Prelude.{codes, Option, Some, None, nat_lt, nat_le, if◌then◌else◌, option_and_then}
use Rattle.std.specs.List.{list_all, slice_split}
use Rattle.std.specs.Char.{is_ascii_digit}
use Rattle.std.specs.Str.{bytes_eq}
use Rattle.std.specs.Str.Parse.{digits_value}
use Rattle.lay_units.specs.declared.length.Unit.{Unit as Length}
use Rattle.lay_units.specs.declared.records.Rect.{Rect}
use Rattle.lay_frag.specs.declared.frag.Frag.{Frag}
use Rattle.lay_frag.specs.declared.frag.FragKind.{FragKind}
use Rattle.lay_frag.specs.declared.frag.FragKind.TheVariants.{Box, Line as LineBox, Text}
use Rattle.lay_drawing.specs.declared.line.EditReply.{EditReply}
use Rattle.lay_drawing.specs.declared.line.EditReply.TheVariants.{Accepted, Refused, NoMemory}
use Rattle.lay_drawing.specs.declared.line.Line.{Line}
use Rattle.lay_drawing.specs.declared.line.Line.TheVariants.{Edit, Publish, Latest, Sync, Final, Laid, Piece}

infixl 10 ◌>>=◌
abbrev pub ◌>>=◌ : {A B : Type 0} → Option A → (A → Option B) → Option B
o >>= f = option_and_then f o

-- digits, without leading zeros
abbrev pub is_numeral : List ℕ → Bool
is_numeral [] = false
is_numeral (x ∷ xs) = list_all is_ascii_digit (x ∷ xs) && (length xs == 0 || not (x == 48))

abbrev pub number_of : List ℕ → Option ℕ
number_of text = if is_numeral text && nat_lt (digits_value 10 text) (2 ^ 64) then Some (digits_value 10 text) else None

abbrev pub small_of : List ℕ → Option ℕ
small_of text = do
  n ← number_of text
  if nat_lt n (2 ^ 32) then Some n else None

abbrev pub negative_of : List ℕ → Option Length
negative_of digits = do
  n ← number_of digits
  if nat_lt 0 n && nat_lt n (2 ^ 62) then Some (record { 0 = neg_ℤ (pos n) }) else None

abbrev pub positive_of : List ℕ → Option Length
positive_of digits = do
  n ← number_of digits
  if nat_lt n (2 ^ 62) then Some (record { 0 = pos n }) else None

abbrev pub position_of : List ℕ → Option Length
position_of [] = None
position_of (x ∷ xs) = if x == 45 then negative_of xs else positive_of (x ∷ xs)

abbrev pub is_word : List ℕ → List ℕ → Bool
is_word word field = bytes_eq field word

abbrev pub counted_of : List (List ℕ) → Option ℕ
counted_of [] = None
counted_of (field ∷ rest) = if length rest == 0 then number_of field else None

abbrev pub version_shown : List (List ℕ) → Option (Option ℕ)
version_shown [] = None
version_shown (field ∷ rest) =
    if is_word (codes "nomemory") field && (length rest == 0) then Some None
    else (do
      version ← counted_of (field ∷ rest)
      Some (Some version))

abbrev pub read_of : List (List ℕ) → Option (ℕ × ℕ × Option ℕ)
read_of [] = None
read_of (editor ∷ []) = None
read_of (editor ∷ index ∷ reply) = do
  e ← small_of editor
  i ← small_of index
  shown ← version_shown reply
  Some (e, i, shown)

-- an `E` and the number of a fault
abbrev pub fault_of : List ℕ → Option ℕ
fault_of [] = None
fault_of (letter ∷ digits) = do
  n ← number_of digits
  if letter == 69 && nat_le 1 n && nat_le n 11 then Some n else None

-- the place of an edit, where it is one of several
abbrev pub place_field : List (List ℕ) → Option (Option ℕ)
place_field [] = Some None
place_field (word ∷ rest) =
    if is_word (codes "at") word then (do
      place ← counted_of rest
      Some (Some place))
    else None

abbrev pub refused_of : List (List ℕ) → Option EditReply
refused_of [] = None
refused_of (field ∷ rest) = do
  fault ← fault_of field
  place ← place_field rest
  Some (Refused fault place)

abbrev pub reply_of : List (List ℕ) → Option EditReply
reply_of [] = None
reply_of (word ∷ rest) =
    if is_word (codes "accepted") word then (do
      version ← counted_of rest
      Some (Accepted version))
    else (if is_word (codes "refused") word then refused_of rest
    else (if is_word (codes "nomemory") word && (length rest == 0) then Some NoMemory else None))

abbrev pub edit_line : List (List ℕ) → Option Line
edit_line [] = None
edit_line (editor ∷ []) = None
edit_line (editor ∷ index ∷ reply) = do
  e ← small_of editor
  i ← small_of index
  r ← reply_of reply
  Some (Edit e i r)

abbrev pub kind_of : List ℕ → Option FragKind
kind_of word =
    if is_word (codes "box") word then Some Box
    else (if is_word (codes "line") word then Some LineBox
    else (if is_word (codes "text") word then Some Text else None))

abbrev pub rect_of : List (List ℕ) → Option Rect
rect_of [] = None
rect_of (x ∷ []) = None
rect_of (x ∷ y ∷ []) = None
rect_of (x ∷ y ∷ w ∷ []) = None
rect_of (x ∷ y ∷ w ∷ h ∷ rest) =
    if length rest == 0 then (do
      left ← position_of x
      top ← position_of y
      width ← position_of w
      height ← position_of h
      Some (record { x = left; y = top; w = width; h = height }))
    else None

abbrev pub piece_of : FragKind → List (List ℕ) → Option Frag
piece_of kind [] = None
piece_of kind (node ∷ []) = None
piece_of kind (node ∷ part ∷ lengths) = do
  n ← small_of node
  p ← small_of part
  r ← rect_of lengths
  Some (record { kind = kind; node = record { 0 = n }; part = p; rect = r })

abbrev pub line_of : List (List ℕ) → Option Line
line_of [] = None
line_of (word ∷ rest) =
    if is_word (codes "edit") word then edit_line rest
    else (if is_word (codes "latest") word then (do
      r ← read_of rest
      Some (Latest r.0 r.1 r.2))
    else (if is_word (codes "sync") word then (do
      r ← read_of rest
      Some (Sync r.0 r.1 r.2))
    else (if is_word (codes "publish") word then (do
      n ← counted_of rest
      Some (Publish n))
    else (if is_word (codes "final") word then (do
      n ← counted_of rest
      Some (Final n))
    else (if is_word (codes "laid") word then (do
      n ← counted_of rest
      Some (Laid n))
    else (do
      kind ← kind_of word
      f ← piece_of kind rest
      Some (Piece f)))))))

-- the fields of a line, and what they say
abbrev pub fields_in : List ℕ → List (List ℕ)
fields_in text = slice_split (λ b. b == 32) text

abbrev pub line_in : List ℕ → Option Line
line_in text = line_of (fields_in text)
