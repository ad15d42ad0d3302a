-- The columns' own widths, cell by cell.
use Rattle.std.proofs.Common.{◌≡◌, ℕ, ◌+◌, ◌<◌, ℤ, Option, Some, None, List, [], ◌∷◌, ◌++◌, length, take, get_or, refl, sym, ap, ◌∙◌, subst, arith}
use Rattle.std.proofs.lemmas.List.{take_more}
use Rattle.lay_units.specs.declared.length.Unit.{Unit}
use Rattle.lay_grid.specs.declared.columns.FirstCell.{FirstCell}
use Rattle.lay_grid.specs.Shares.{own_at}
use Rattle.lay_grid.specs.Columns.{or_else, by_cells, given_by}
use Rattle.lay_grid.specs.Pass.Sharing.{Gives}

or_assoc : (a b c : Option Unit) → or_else (or_else a b) c ≡ or_else a (or_else b c)
or_assoc None b c = refl
or_assoc (Some a) b c = refl

or_none : (a : Option Unit) → or_else a None ≡ a
or_none None = refl
or_none (Some a) = refl

by_push : (s : ℤ) (cells : List FirstCell) (cell : FirstCell) (i : ℕ)
    → by_cells s (cells ++ cell ∷ []) i ≡ or_else (by_cells s cells i) (given_by s cell cell.width i)
by_push s [] cell i = or_none (given_by s cell cell.width i)
by_push s (c ∷ cells) cell i = ap (or_else (given_by s c c.width i)) (by_push s cells cell i) ∙ sym
    (or_assoc (given_by s c c.width i) (by_cells s cells i) (given_by s cell cell.width i))

own_next : (s : ℤ) (given before after : List (Option Unit)) (cells : List FirstCell) (n : ℕ) (d : FirstCell) → n < length cells
    → Gives s (get_or cells n d) before after → length before ≡ length given
    → ((i : ℕ) → i < length given → own_at before i ≡ or_else (own_at given i) (by_cells s (take n cells) i))
    → (i : ℕ) → i < length given → own_at after i ≡ or_else (own_at given i) (by_cells s (take (n + 1) cells) i)
own_next s given before after cells n d lt g len old i within =
    let t = ap (λ (cs : List FirstCell). by_cells s cs i) (take_more cells n d lt) ∙ by_push s (take n cells) (get_or cells n d) i in
    let a = g.own i (omega (arith, len, within)) in
    let b = ap (λ (o : Option Unit). or_else o (given_by s (get_or cells n d) (get_or cells n d).width i)) (old i within) in
    a ∙ b ∙ or_assoc (own_at given i) (by_cells s (take n cells) i) (given_by s (get_or cells n d) (get_or cells n d).width i) ∙ ap
    (or_else (own_at given i)) (sym t)

pub own_more : (s : ℤ) (given before after : List (Option Unit)) (items cells : List FirstCell) (n : ℕ) (d : FirstCell) → items ≡ cells
    → n < length items → Gives s (get_or items n d) before after → length before ≡ length given
    → ((i : ℕ) → i < length given → own_at before i ≡ or_else (own_at given i) (by_cells s (take n cells) i))
    → (i : ℕ) → i < length given → own_at after i ≡ or_else (own_at given i) (by_cells s (take (n + 1) cells) i)
own_more s given before after items cells n d e lt g =
    own_next s given before after cells n d (subst (λ (cs : List FirstCell). n < length cs) e lt)
    (subst (λ (cs : List FirstCell). Gives s (get_or cs n d) before after) e g)
