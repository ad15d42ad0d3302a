-- What it means that runs of consecutive siblings are replaced, said without going from child to child: each
-- longest run is, and all else stays. `gathered` does that, and nothing else does.
use Rattle.std.specs.Prelude.{◌≡◌, Bool, true, false, List, [], ◌∷◌, ◌++◌, ◌↔◌}
use Rattle.lay_boxgen.specs.Boxes.{Tree, facts_of}
use Rattle.lay_boxgen.specs.Runs.{gathered, is_white_box}
use Rattle.lay_boxgen.specs.declared.facts.Facts.{Facts}

-- white space between faulty siblings: none of it is faulty itself
abbrev pub IsGap : (Facts → Bool) → List Tree → Type 0
IsGap fault [] = Unit {0}
IsGap fault (t ∷ ts) = (fault (facts_of t) ≡ false) × (is_white_box t ≡ true) × IsGap fault ts

-- consecutive faulty siblings: nothing or only white space stands between one and the next
pub data IsFaultyRun (fault : Facts → Bool) : List Tree → Type 0 where
  one : (t : Tree) → fault (facts_of t) ≡ true → IsFaultyRun fault (t ∷ [])
  further : (run gap : List Tree) (t : Tree) → IsFaultyRun fault run → IsGap fault gap → fault (facts_of t) ≡ true
      → IsFaultyRun fault (run ++ gap ++ t ∷ [])

-- siblings that end a run before them: no faulty one follows at once or behind white space
pub data EndsRun (fault : Facts → Bool) : List Tree → Type 0 where
  nothing_follows : EndsRun fault []
  other : (t : Tree) (ts : List Tree) → fault (facts_of t) ≡ false → is_white_box t ≡ false → EndsRun fault (t ∷ ts)
  behind_white : (t : Tree) (ts : List Tree) → fault (facts_of t) ≡ false → is_white_box t ≡ true
      → EndsRun fault ts → EndsRun fault (t ∷ ts)

-- children, and what they are with each longest run replaced
pub data IsReplaced (fault : Facts → Bool) (close : List Tree → List Tree) : List Tree → List Tree → Type 0 where
  none : IsReplaced fault close [] []
  kept : (t : Tree) (ts us : List Tree) → fault (facts_of t) ≡ false → IsReplaced fault close ts us
      → IsReplaced fault close (t ∷ ts) (t ∷ us)
  replaced : (run ts us : List Tree) → IsFaultyRun fault run → EndsRun fault ts → IsReplaced fault close ts us
      → IsReplaced fault close (run ++ ts) (close run ++ us)

abbrev pub RunsAreReplaced : Type 0
RunsAreReplaced = (fault : Facts → Bool) (close : List Tree → List Tree) (children result : List Tree)
    → IsReplaced fault close children result ↔ (result ≡ gathered fault close children)
