-- Contexts that keep all but the styles and texts of their boxes keep the links and the roots of these.
use Rattle.std.proofs.Common.{◌≡◌, ℕ, zero, suc, ◌&&◌, Bool, false, not, List, map, slice_index, slice_index_or, refl, ap, sym, ◌∙◌}
use Rattle.std.proofs.Math.Path.{fun_ext}
use Rattle.lay_box_tree.specs.declared.box_tree.BoxKind.{BoxKind}
use Rattle.lay_box_tree.specs.declared.box_tree.BoxKind.TheVariants.{Text}
use Rattle.lay_box_tree.specs.declared.box_tree.BoxNode.{BoxNode}
use Rattle.lay_contexts.specs.Contexts.{Context, boxes_in}
use Rattle.lay_contexts.specs.Homes.{box_roots, is_root, is_wrapper_or_cell}
use Rattle.lay_contexts.specs.KeptLinks.{HaveForm, KeepLinks, KeepUnflagged}
use Rattle.lay_after_edits.specs.Contexts.Links.{AreRestyled}
use Rattle.lay_after_edits.specs.Contexts.Unstyled.{all_unstyled, bare_kind}
use Rattle.lay_after_edits.proofs.ContextsLemmas.LaterList.{column, same-count}

-- a text is no wrapper and no cell, whichever it is
bare-wrapper : (k : BoxKind) → is_wrapper_or_cell (bare_kind k) ≡ is_wrapper_or_cell k
bare-wrapper (Text text) = refl
bare-wrapper _ = refl

bare-roots : (xs : List BoxNode) → box_roots xs ≡ map (λ b. b.anonymous && not b.inner && is_wrapper_or_cell (bare_kind b.kind)) xs
bare-roots xs =
    ap (λ (f : BoxNode → Bool). map f xs) (fun_ext (λ b. ap (λ (w : Bool). b.anonymous && not b.inner && w) (sym (bare-wrapper b.kind))))

module _ (xs ys : List BoxNode) (e : all_unstyled xs ≡ all_unstyled ys) where
  roots-same : box_roots xs ≡ box_roots ys
  roots-same = bare-roots xs ∙ (column (λ u. u.anonymous && not u.inner && is_wrapper_or_cell u.kind) xs ys e ∙ sym (bare-roots ys))

  root-same : (k : ℕ) → is_root xs k ≡ is_root ys k
  root-same zero = refl
  root-same (suc k) = ap (λ (bs : List Bool). slice_index_or bs (suc k) false) roots-same

  form-stays : HaveForm ys xs
  form-stays = record {
    count = same-count xs ys e;
    parents = λ k. ap (λ (ps : List ℕ). slice_index ps k) (column (λ u. u.parent) xs ys e);
    roots = root-same;
  }

module _ (contexts later : List Context) (made : List Bool) (are : AreRestyled contexts later made) where
  pub links-stay : KeepLinks contexts later
  links-stay = record {
    count = are.count;
    links = λ i lt. (let l = are.links i lt in
        record {
          outer = l.outer;
          outer_box = l.outer_box;
          inner = l.inner;
          form = form-stays (boxes_in later i) (boxes_in contexts i) l.boxes;
        });
  }

  pub unflagged-stay : KeepUnflagged contexts later made
  unflagged-stay = record { flags = are.flags; kept = are.kept }
