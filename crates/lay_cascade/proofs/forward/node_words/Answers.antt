use Rattle.std.proofs.Common.{◌≡◌, ◌∙◌, ◌+◌, ◌<◌, ℕ, sym, ap, subst}
use Rattle.std.specs.Prelude.{bit_and, slice_index}
use Rattle.lay_sheet.specs.declared.selector.Joint.TheVariants.{Descendant, Child, Adjacent}
use Rattle.lay_cascade.specs.Matching.{Says}
use Rattle.lay_cascade.specs.Columns.{ComeTo, Leads}
use Rattle.lay_cascade.specs.Words.{is_in, spread}
use Rattle.lay_cascade.specs.Reading.{joined}
use Rattle.lay_cascade.proofs.Adjacent.{parent_before}
use Rattle.lay_cascade.proofs.Reading.{word_comes, word_leads, above_leads}
use Rattle.lay_cascade.proofs.forward.node_words.Goals as goal

pub returns : goal.returns
returns c =
    let nodes = c.args.named.nodes.now in
    let names = c.args.named.names.now in
    let window = c.args.window.now in
    let steps = window.steps.now in
    let from = window.from in
    let count = window.count in
    let here = c.args.told.here.now in
    let over = c.args.told.above.now in
    let k = c.args.k in
    let tree = c.requires.named.tree in
    let inside = c.requires.place in
    let few = c.requires.window.few in
    let within = c.requires.window.within in
    let behind = c.requires.behind in
    let fits = c.fitting_at-fits.result in
    let comes : (m j : ℕ) → m < k → j < count → Says (is_in (slice_index here m) j) (ComeTo nodes names steps ((from + j) + 1) m) = λ m j l h. (c.requires.told.each m l).comes j h in
    let leads : (m j : ℕ) → m < k → j < count → Says (is_in (slice_index over m) j) (Leads nodes names steps ((from + j) + 1) Descendant m) = λ m j l h. (c.requires.told.each m l).leads j h in
    let child : (j : ℕ) → j < count → Says (is_in c.word_of-child.result j) (Leads nodes names steps ((from + j) + 1) Child k) = λ j h.
    subst (λ (z : ℕ). Says (is_in z j) (Leads nodes names steps ((from + j) + 1) Child k)) (sym c.word_of-child.ensures)
    (word_leads nodes names steps from count few within behind k here over comes Child c.before-parent.result c.before-parent.ensures (λ m s. subst (λ z. z < k) s.1 (parent_before nodes k tree inside s.0)) j h) in
    let adjacent : (j : ℕ) → j < count → Says (is_in c.word_of-adjacent.result j) (Leads nodes names steps ((from + j) + 1) Adjacent k) = λ j h.
    subst (λ (z : ℕ). Says (is_in z j) (Leads nodes names steps ((from + j) + 1) Adjacent k)) (sym c.word_of-adjacent.ensures)
    (word_leads nodes names steps from count few within behind k here over comes Adjacent c.before-sibling.result c.before-sibling.ensures (λ m s. s.before) j h) in
    let above : (j : ℕ) → j < count → Says (is_in c.above_word-above.result j) (Leads nodes names steps ((from + j) + 1) Descendant k) = λ j h.
    subst (λ (z : ℕ). Says (is_in z j) (Leads nodes names steps ((from + j) + 1) Descendant k)) (sym c.above_word-above.ensures)
    (above_leads nodes names steps from count few within behind k here over comes leads tree inside j h) in
    let reached = joined window.joints c.args.front c.word_of-child.result c.word_of-adjacent.result c.above_word-above.result in
    let spreads : (j : ℕ) → j < 64 → is_in c.spread-here.result j ≡ spread (bit_and fits reached) (bit_and fits window.joints.same) j = λ j l.
    c.spread-here.ensures j l ∙ ap (λ z. spread (bit_and fits z) (bit_and fits window.joints.same) j) c.joined-reached.ensures in
    record {
      comes = word_comes nodes names steps from count few within behind k window.joints c.requires.window.joints c.fitting_at-fits.result c.spread-here.result c.word_of-child.result c.word_of-adjacent.result
          c.above_word-above.result c.args.front c.fitting_at-fits.ensures c.requires.front child adjacent above spreads;
      leads = above;
    }
