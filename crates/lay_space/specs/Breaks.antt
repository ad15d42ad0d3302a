-- Where lines may break in inline content (CSS 2.2, 16.6 and 9.4.2). Where white space wraps, a line may
-- break after a collapsible space, after a row of preserved spaces, after a zero width space, and on each
-- side of an atomic box. It has to break after a preserved linefeed. The end of an inline box stands before
-- a break at the same place, whatever floats and anchors stand between, and the start of one that begins with
-- an atomic stands after it. A float there is met before the break, unless the break is forced, and so is an
-- anchor: that holds nothing back, since it is removed from the flow entirely (9.6). But the start of an inline
-- box whose left margin, border or padding isn't 0 takes room, so it is content for the floats and anchors in
-- it: these stay behind the break with it.
--
-- By 16.6.1 lines may break where the text before collapsing lets them. Here it is the text that is left: a
-- space that was removed leaves no break.
use Rattle.std.specs.Prelude.{List, [], ◌∷◌, ◌++◌, Bool, true, false, if◌then◌else◌, ◌&&◌, ◌||◌, not, Option, Some, None}
use Rattle.lay_space.specs.declared.tokens.ClusterKind.{ClusterKind}
use Rattle.lay_space.specs.declared.tokens.ClusterKind.TheVariants.{CollapsibleSpace, PreservedSpace, Linefeed, Tab, ZeroWidthSpace, Other}
use Rattle.lay_space.specs.declared.tokens.Token.{Token}
use Rattle.lay_space.specs.declared.tokens.Token.TheVariants.{Cluster, TextEnd, Atomic, Start, End, Float, Anchor}
use Rattle.lay_space.specs.declared.breaks.Entry.{Entry}
use Rattle.lay_space.specs.declared.breaks.Entry.TheVariants.{Content, Break}
use Rattle.lay_space.specs.Modes.{wraps}

abbrev pub is_solid_token : Token → Bool
is_solid_token (Cluster c) = true
is_solid_token TextEnd = false
is_solid_token (Atomic n m) = true
is_solid_token (Start n takes) = false
is_solid_token (End n) = false
is_solid_token (Float n) = false
is_solid_token (Anchor n) = false

abbrev pub is_preserved_space : Token → Bool
is_preserved_space (Cluster c) = kind_is c.kind
  where
    kind_is : ClusterKind → Bool
    kind_is CollapsibleSpace = false
    kind_is PreservedSpace = true
    kind_is Linefeed = false
    kind_is Tab = false
    kind_is ZeroWidthSpace = false
    kind_is Other = false
is_preserved_space TextEnd = false
is_preserved_space (Atomic n m) = false
is_preserved_space (Start n takes) = false
is_preserved_space (End n) = false
is_preserved_space (Float n) = false
is_preserved_space (Anchor n) = false

abbrev pub space_follows : List Token → Bool
space_follows [] = false
space_follows (x ∷ xs) = is_preserved_space x

-- The break right after a cluster: none, one that a line may take, or a forced one. Of a row of preserved
-- spaces of one text only the last has one.
abbrev pub break_after_cluster : ClusterKind → Bool → List Token → Option Bool
break_after_cluster CollapsibleSpace wrapping next = if wrapping then Some false else None
break_after_cluster PreservedSpace wrapping next = if wrapping && not (space_follows next) then Some false else None
break_after_cluster Linefeed wrapping next = Some true
break_after_cluster ZeroWidthSpace wrapping next = if wrapping then Some false else None
break_after_cluster Tab wrapping next = None
break_after_cluster Other wrapping next = None

abbrev pub break_after : Token → List Token → Option Bool
break_after (Cluster c) next = break_after_cluster c.kind (wraps c.mode) next
break_after TextEnd next = None
break_after (Atomic n m) next = if wraps m then Some false else None
break_after (Start n takes) next = None
break_after (End n) next = None
break_after (Float n) next = None
break_after (Anchor n) next = None

-- These tokens begin with an atomic that a line may break before, but for starts of inline boxes and what
-- has no extent.
abbrev pub leads_to_atomic : List Token → Bool
leads_to_atomic [] = false
leads_to_atomic (Cluster c ∷ xs) = false
leads_to_atomic (TextEnd ∷ xs) = leads_to_atomic xs
leads_to_atomic (Atomic n m ∷ xs) = wraps m
leads_to_atomic (Start n takes ∷ xs) = leads_to_atomic xs
leads_to_atomic (End n ∷ xs) = false
leads_to_atomic (Float n ∷ xs) = leads_to_atomic xs
leads_to_atomic (Anchor n ∷ xs) = leads_to_atomic xs

-- the tokens that may stand between a break and its atomic
abbrev pub passes_by : Token → Bool
passes_by (Cluster c) = false
passes_by TextEnd = true
passes_by (Atomic n m) = false
passes_by (Start n takes) = true
passes_by (End n) = false
passes_by (Float n) = true
passes_by (Anchor n) = true

abbrev pub breaks_before : Token → List Token → Bool
breaks_before (Cluster c) next = false
breaks_before TextEnd next = false
breaks_before (Atomic n m) next = wraps m
breaks_before (Start n takes) next = leads_to_atomic next
breaks_before (End n) next = false
breaks_before (Float n) next = false
breaks_before (Anchor n) next = false

abbrev pub front_break : Bool → List Entry
front_break here = if here then Break false ∷ [] else []

abbrev pub back_break : Option Bool → List Entry
back_break None = []
back_break (Some forced) = Break forced ∷ []

abbrev pub solid_after : Option Bool → Bool → Bool
solid_after None solid = solid
solid_after (Some forced) solid = false

-- First the breaks are put in. A break before needs a cluster or an atomic since the last break: `solid`.
abbrev pub broken : Bool → List Token → List Entry
broken solid [] = []
broken solid (x ∷ xs) =
    front_break (solid && breaks_before x xs) ++ Content x ∷ back_break (break_after x xs)
    ++ broken (solid_after (break_after x xs) ((solid && not (breaks_before x xs)) || is_solid_token x)) xs

-- What stands right after a break and goes before it: floats and anchors, unless the break is forced, and the end of an
-- inline box or of a text, unless an inline box starts between (`started`).
abbrev pub goes_back : Token → Bool → Bool → Bool
goes_back (Cluster c) forced started = false
goes_back TextEnd forced started = not started
goes_back (Atomic n m) forced started = false
goes_back (Start n takes) forced started = false
goes_back (End n) forced started = not started
goes_back (Float n) forced started = not forced
goes_back (Anchor n) forced started = not forced

-- what waits behind a break, since something behind it may go before the break
abbrev pub waits : Token → Bool
waits (Cluster c) = false
waits TextEnd = true
waits (Atomic n m) = false
waits (Start n takes) = not takes
waits (End n) = true
waits (Float n) = true
waits (Anchor n) = true

abbrev pub is_start : Token → Bool
is_start (Cluster c) = false
is_start TextEnd = false
is_start (Atomic n m) = false
is_start (Start n takes) = true
is_start (End n) = false
is_start (Float n) = false
is_start (Anchor n) = false

-- the break that things may go back behind, and what waits behind it
abbrev pub flushed : Option Bool → List Entry → List Entry
flushed None held = held
flushed (Some forced) held = Break forced ∷ held

-- Then each break moves behind what goes back. `held` waits behind the break `at`.
abbrev pub settled : Option Bool → Bool → List Entry → List Entry → List Entry
settled at started held [] = flushed at held
settled at started held (Break forced ∷ xs) = flushed at held ++ settled (Some forced) false [] xs
settled None started held (Content x ∷ xs) = held ++ Content x ∷ settled None false [] xs
settled (Some forced) started held (Content x ∷ xs) =
    if goes_back x forced started then Content x ∷ settled (Some forced) started held xs
    else (if waits x then settled (Some forced) (started || is_start x) (held ++ Content x ∷ []) xs
    else flushed (Some forced) held ++ Content x ∷ settled None false [] xs)

-- the content with its breaks
abbrev pub entries_of : List Token → List Entry
entries_of xs = settled None false [] (broken false xs)
