-- What stands behind a state of reading: the lines so far, and the line that isn't ended yet.
use Rattle.std.specs.Prelude.{ℕ, ◌≡◌, ◌+◌, ◌==◌, ◌&&◌, ◌||◌, Bool, true, false, not, List}
use Rattle.std.specs.Prelude.{[], ◌∷◌, ◌++◌, length, Option, Some, None, if◌then◌else◌}
use Rattle.std.specs.List.{flat_map, list_any, All}
use Rattle.lay_drawing.specs.declared.line.Line.{Line}
use Rattle.lay_drawing.specs.declared.places.Place.TheVariants.{History}
use Rattle.lay_drawing.specs.declared.state.Reading.{Reading}
use Rattle.lay_drawing.specs.declared.state.Stop.{Stop}
use Rattle.lay_drawing.specs.declared.state.Stop.TheVariants.{BadLine, NoMemory}
use Rattle.lay_drawing.specs.Lines.{line_text, IsLine}
use Rattle.lay_drawing.specs.Reports.{place_after, place_behind_line, is_shown, is_piece, shows}
use Rattle.lay_drawing.specs.Reports.{piece_in, pieces_shown, IsReport, IsBadLine}

-- the lines since the first that shows the wanted tree are pieces of it
abbrev pub all_pieces : List Line → Bool
all_pieces [] = true
all_pieces (line ∷ lines) = is_piece line && all_pieces lines

abbrev pub is_open : Option ℕ → List Line → Bool
is_open wanted [] = false
is_open wanted (line ∷ lines) = if shows wanted line then all_pieces lines else is_open wanted lines

-- these lines were read
pub record HasLines (s : Reading) (lines : List Line) : Type 0 where
  pub all : All IsLine lines
  pub place_is : place_after History lines ≡ Some s.place
  pub count_is : length lines ≡ s.count
  pub shown_is : is_shown s.wanted lines ≡ s.is_shown
  pub open_is : is_open s.wanted lines ≡ s.is_open
  pub pieces_are : pieces_shown s.wanted lines ≡ s.pieces.items

-- these bytes were read
pub record HasRead (s : Reading) (bytes : List ℕ) : Type 0 where
  pub lines : List Line
  pub bytes_are : bytes ≡ flat_map line_text lines ++ s.text.items
  pub no_end : list_any (λ b. b == 10) s.text.items ≡ false
  pub has_lines : HasLines s lines

-- one more line is read
pub record Adds (s : Reading) (line : Line) (t : Reading) : Type 0 where
  pub place_is : place_behind_line line s.place ≡ Some t.place
  pub count_is : t.count ≡ s.count + 1
  pub wanted_is : t.wanted ≡ s.wanted
  pub text_is : t.text.items ≡ s.text.items
  pub shown_is : t.is_shown ≡ (if s.is_open then s.is_shown else s.is_shown || shows s.wanted line)
  pub open_is : t.is_open ≡ (if s.is_open then is_piece line else not s.is_shown && shows s.wanted line)
  pub pieces_are : t.pieces.items ≡ s.pieces.items ++ (if s.is_open then piece_in line else [])

-- why a line isn't added
abbrev pub CantAdd : Reading → Line → Stop → Type 0
CantAdd s line (BadLine number) = (place_behind_line line s.place ≡ None) × (number ≡ s.count + 1)
CantAdd s line NoMemory = Unit {0}

-- the number of the next line, unless it is too great
abbrev pub IsNextLineNumber : ℕ → Stop → Type 0
IsNextLineNumber count (BadLine number) = number ≡ count + 1
IsNextLineNumber count NoMemory = Unit {0}

-- reading these bytes leads from one state to another
pub record Reads (s : Reading) (bytes : List ℕ) (t : Reading) : Type 0 where
  pub wanted_is : t.wanted ≡ s.wanted
  pub reads : (before : List ℕ) → HasRead s before → HasRead t (before ++ bytes)

-- a line that these bytes begin or end is bad, whatever follows
abbrev pub Stops : Reading → List ℕ → Stop → Type 0
Stops s bytes (BadLine number) = (before more : List ℕ) → HasRead s before → IsBadLine (before ++ bytes ++ more) number
Stops s bytes NoMemory = Unit {0}

-- nothing follows, and the report is whole
pub record WasReport (s : Reading) (bytes : List ℕ) : Type 0 where
  pub lines : List Line
  pub report : IsReport bytes lines
  pub shown_is : is_shown s.wanted lines ≡ s.is_shown
  pub pieces_are : pieces_shown s.wanted lines ≡ s.pieces.items

-- nothing follows, and a line is bad or missing
abbrev pub StopsAtEnd : Reading → Stop → Type 0
StopsAtEnd s (BadLine number) = (before : List ℕ) → HasRead s before → IsBadLine before number
StopsAtEnd s NoMemory = Unit {0}
