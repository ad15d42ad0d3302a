-- What the columns of all contexts say of a box.
use Rattle.std.proofs.Common.{◌≡◌, ℕ, zero, suc, ◌+◌, ◌<◌, false, List, [], length, slice_index, slice_index_or, refl, ap, sym, ◌∙◌, arith}
use Rattle.lay_contexts.specs.Contexts.{AreContexts, Context, boxes_in, context_at}
use Rattle.lay_contexts.specs.FormattingBoxes.{at_home_before}
use Rattle.lay_contexts.specs.FormattingContextList.{first_number, homes_in, inner_number, number_at, number_of}
use Rattle.lay_contexts.specs.Homes.{is_root}
use Rattle.lay_contexts.specs.Partings.{ArePartings, Parting, homes_of, parting_at}
use Rattle.lay_contexts.specs.declared.spot.Spot.{Spot}
use Rattle.lay_contexts.proofs.ContextFacts.{home_there}
use Rattle.lay_contexts.proofs.GrowingColumns.{homes_found, homes_there}

module _ (contexts : List Context) (ps : List Parting) (are : ArePartings contexts ps) where
  -- there is a number for each box, and one more
  pub numbers_there : (i : ℕ) → i < length contexts → length (parting_at ps i).numbers ≡ length (boxes_in contexts i) + 1
  numbers_there i lt = (are.each i lt).numbers.count

  pub number_is : (i k : ℕ) → i < length contexts → k < length (boxes_in contexts i) → slice_index (parting_at ps i).numbers k ≡ number_of contexts i k
  number_is i k lt inside = (are.each i lt).numbers.each k (omega (arith, inside))

  pub first_is : (i : ℕ) → i < length contexts → slice_index (parting_at ps i).numbers 0 ≡ first_number contexts i
  first_is i lt = (let e = (are.each i lt).numbers.each 0 (omega arith) in omega (arith, e))

  pub home_within_boxes : (i k : ℕ) → AreContexts contexts → i < length contexts → k < length (boxes_in contexts i) → slice_index (parting_at ps i).homes k < length (boxes_in contexts i)
  home_within_boxes i k order lt inside =
      let e = ap (λ (hs : List ℕ). slice_index hs k) (homes_there ps i) in
      let low = home_there contexts (homes_of ps) order (homes_found contexts ps are) i k lt inside in
      omega (arith, e, low)

  pub number_around : (s : Spot) → AreContexts contexts → s.context < length contexts → s.place < length (boxes_in contexts s.context)
      → slice_index (parting_at ps s.context).numbers (slice_index (parting_at ps s.context).homes s.place) ≡ number_at contexts (homes_of ps) s
  number_around s order lt inside =
      number_is s.context (slice_index (parting_at ps s.context).homes s.place) lt (home_within_boxes s.context s.place order lt inside)
      ∙ ap (λ (hs : List ℕ). number_of contexts s.context (slice_index hs s.place)) (sym (homes_there ps s.context))

  -- the places of those at home in a box
  pub places_are : (i r : ℕ) → i < length contexts → r < length (boxes_in contexts i)
      → slice_index_or (parting_at ps i).at_home r [] ≡ at_home_before (homes_in (homes_of ps) i) r (length (boxes_in contexts i))
  places_are i r lt inside =
      let p = are.each i lt in
      p.ranks.list r (omega (arith, inside, p.homes.count)) ∙ ap (λ (hs : List ℕ). at_home_before hs r (length (boxes_in contexts i))) (sym (homes_there ps i))

-- the number of the context whose box a box is
pub inner_within : (contexts : List Context) (i k : ℕ) → AreContexts contexts → i < length contexts → k < length (boxes_in contexts i) → slice_index (context_at contexts i).inner k < length contexts
inner_within contexts i k order lt inside = by_number (slice_index (context_at contexts i).inner k) refl
  where
    by_number : (x : ℕ) → slice_index (context_at contexts i).inner k ≡ x → x < length contexts
    by_number zero e = omega (arith, lt)
    by_number (suc x) e = order.within i (suc x) lt (record { box = k; within = (let c = order.count i lt in omega (arith, c, inside)); number = e; some = omega arith })

pub inner_else : (contexts : List Context) (i k : ℕ) → is_root (boxes_in contexts i) k ≡ false → inner_number contexts i k ≡ first_number contexts (slice_index (context_at contexts i).inner k)
inner_else contexts i k e = rw e refl
