-- Where lines break, in the words of 16.6 and 16.6.1 (CSS 2.2), of clusters and atomic boxes alone. Each of
-- them has at most one break behind it, before the next one: a forced break exactly behind a preserved
-- linefeed; else a break where a line may break behind it, or before the next one, which is an atomic box
-- whose surroundings wrap.
use Rattle.std.specs.Prelude.{List, [], ◌∷◌, ◌++◌, Bool, true, false, if◌then◌else◌, ◌&&◌, ◌||◌, not}
use Rattle.lay_space.specs.declared.tokens.ClusterKind.{ClusterKind}
use Rattle.lay_space.specs.declared.tokens.ClusterKind.TheVariants.{CollapsibleSpace, PreservedSpace, Linefeed, Tab, ZeroWidthSpace, Other}
use Rattle.lay_space.specs.declared.tokens.Token.{Token}
use Rattle.lay_space.specs.declared.tokens.Token.TheVariants.{Cluster, TextEnd, Atomic, Start, End, Float, Anchor}
use Rattle.lay_space.specs.declared.breaks.Entry.{Entry}
use Rattle.lay_space.specs.declared.breaks.Entry.TheVariants.{Content, Break}
use Rattle.lay_space.specs.Modes.{wraps}
use Rattle.lay_space.specs.Breaks.{space_follows}

-- an atomic whose surroundings wrap
abbrev pub is_wrapped_atomic : Token → Bool
is_wrapped_atomic (Cluster c) = false
is_wrapped_atomic TextEnd = false
is_wrapped_atomic (Atomic n m) = wraps m
is_wrapped_atomic (Start n takes) = false
is_wrapped_atomic (End n) = false
is_wrapped_atomic (Float n) = false
is_wrapped_atomic (Anchor n) = false

abbrev pub is_cluster_or_atomic : Token → Bool
is_cluster_or_atomic (Cluster c) = true
is_cluster_or_atomic TextEnd = false
is_cluster_or_atomic (Atomic n m) = true
is_cluster_or_atomic (Start n takes) = false
is_cluster_or_atomic (End n) = false
is_cluster_or_atomic (Float n) = false
is_cluster_or_atomic (Anchor n) = false

-- whether the next cluster or atomic is an atomic whose surroundings wrap
abbrev pub wrapped_atomic_is_next : List Token → Bool
wrapped_atomic_is_next [] = false
wrapped_atomic_is_next (x ∷ xs) = if is_cluster_or_atomic x then is_wrapped_atomic x else wrapped_atomic_is_next xs

-- a collapsible space, the last of a row of preserved spaces, or U+200B
abbrev pub is_opportunity : ClusterKind → List Token → Bool
is_opportunity CollapsibleSpace next = true
is_opportunity PreservedSpace next = not (space_follows next)
is_opportunity Linefeed next = false
is_opportunity Tab next = false
is_opportunity ZeroWidthSpace next = true
is_opportunity Other next = false

abbrev pub may_break_behind : Token → List Token → Bool
may_break_behind (Cluster c) next = wraps c.mode && is_opportunity c.kind next
may_break_behind TextEnd next = false
may_break_behind (Atomic n m) next = wraps m
may_break_behind (Start n takes) next = false
may_break_behind (End n) next = false
may_break_behind (Float n) next = false
may_break_behind (Anchor n) next = false

-- whether a line has to break behind it
abbrev pub is_linefeed : ClusterKind → Bool
is_linefeed CollapsibleSpace = false
is_linefeed PreservedSpace = false
is_linefeed Linefeed = true
is_linefeed Tab = false
is_linefeed ZeroWidthSpace = false
is_linefeed Other = false

abbrev pub must_break_behind : Token → Bool
must_break_behind (Cluster c) = is_linefeed c.kind
must_break_behind TextEnd = false
must_break_behind (Atomic n m) = false
must_break_behind (Start n takes) = false
must_break_behind (End n) = false
must_break_behind (Float n) = false
must_break_behind (Anchor n) = false

-- the break between a cluster or an atomic and the next one, if there is one
abbrev pub break_behind : Token → List Token → List Entry
break_behind x next =
    if must_break_behind x then Break true ∷ []
    else (if may_break_behind x next || wrapped_atomic_is_next next then Break false ∷ [] else [])

-- the clusters and atomics of these tokens, and the breaks between them
abbrev pub with_breaks : List Token → List Entry
with_breaks [] = []
with_breaks (x ∷ xs) = if is_cluster_or_atomic x then Content x ∷ break_behind x xs ++ with_breaks xs else with_breaks xs

abbrev pub is_break_or_solid : Entry → Bool
is_break_or_solid (Content x) = is_cluster_or_atomic x
is_break_or_solid (Break forced) = true
