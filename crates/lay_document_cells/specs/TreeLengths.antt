-- A tree has a context for each context of its document (CSS 2.2, 9.4.1), and none for the anonymous tables and cells in these.
use Rattle.std.specs.Prelude.{◌≡◌, List, length}
use Rattle.lay_frag.specs.Pieces.{Context as PageContext}
use Rattle.lay_contexts.specs.Contexts.{AreContexts, Context}
use Rattle.lay_contexts.specs.FormattingContexts.{FormattingContext}
use Rattle.lay_contexts.specs.FormattingContextList.{AreFormattingContextsOf}
use Rattle.lay_context.specs.Solves.{IsAssembled}
use Rattle.lay_context.specs.Workings.{Workings}

abbrev pub TreesListContexts : Type 0
TreesListContexts = (contexts : List Context) (all : List FormattingContext) (w : Workings) (tree : List PageContext) → AreContexts contexts
    → AreFormattingContextsOf contexts all → IsAssembled all w tree → length tree ≡ length contexts
