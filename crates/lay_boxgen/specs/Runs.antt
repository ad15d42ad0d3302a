-- Runs of consecutive siblings (17.2.1). Two siblings are consecutive if nothing or only an anonymous inline
-- box of white space stands between them. RunLaws.antt says what comes of this without going from child to
-- child.
use Rattle.std.specs.Prelude.{Bool, true, false, ◌&&◌, List, [], ◌∷◌, ◌++◌, if◌then◌else◌}
use Rattle.lay_boxgen.specs.Boxes.{Tree, tree, trees_of, facts_of}
use Rattle.lay_boxgen.specs.Forms.{is_white}
use Rattle.lay_boxgen.specs.declared.facts.Facts.{Facts}
use Rattle.lay_boxgen.specs.declared.facts.Form.{Form}
use Rattle.lay_box_tree.specs.declared.box_tree.Flow.TheVariants.{InFlow}

abbrev pub is_white_box : Tree → Bool
is_white_box t = is_white (facts_of t).form

-- the facts of an anonymous box of this form: its node is that of the box around it, from which it inherits
abbrev pub anonymous_facts : Facts → Form → Facts
anonymous_facts f form = record { node = f.node; place = f.place; form = form; anonymous = true; flow = InFlow; inner = false }

abbrev pub is_faulty_box : (Facts → Bool) → Tree → Bool
is_faulty_box fault t = fault (facts_of t)

-- an anonymous box in a box with these facts, round these boxes
abbrev pub anonymous_box : Facts → Form → List Tree → Tree
anonymous_box f form run = tree (anonymous_facts f form) (trees_of run)

abbrev pub is_some : List Tree → Bool
is_some [] = false
is_some (t ∷ ts) = true

-- where a run ends: what stands for it, and then the white space after it
abbrev pub run_over : (List Tree → List Tree) → List Tree → List Tree → List Tree
run_over close [] gap = gap
run_over close (t ∷ ts) gap = close (t ∷ ts) ++ gap

-- The children of a box from some child on, with each run of consecutive faulty ones replaced by what
-- `close` makes of it. `run` holds the latest faulty ones, and `gap` the white space behind them: a faulty
-- child goes on with the run, and takes the gap into it; white space makes the gap longer; any other child
-- ends the run.
abbrev pub gathered_from : (Facts → Bool) → (List Tree → List Tree) → List Tree → List Tree → List Tree → List Tree
gathered_from fault close run gap [] = run_over close run gap
gathered_from fault close run gap (t ∷ ts) =
    if fault (facts_of t) then gathered_from fault close (run ++ gap ++ t ∷ []) [] ts
    else (if is_some run && is_white_box t then gathered_from fault close run (gap ++ t ∷ []) ts
    else run_over close run gap ++ t ∷ [] ++ gathered_from fault close [] [] ts)

-- the children of a box, with each run of consecutive faulty ones replaced. Example: with rows faulty,
-- `row " " row block row` is `close (row " " row)`, block, `close (row)`.
abbrev pub gathered : (Facts → Bool) → (List Tree → List Tree) → List Tree → List Tree
gathered fault close children = gathered_from fault close [] [] children
