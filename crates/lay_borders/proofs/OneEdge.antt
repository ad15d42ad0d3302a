-- Each edge has one border, or none.
use Rattle.std.proofs.Common.{◌≡◌, Option, Some, None, List, [], get_or, refl, sym, ap, ◌∙◌, arith}
use Rattle.std.proofs.lemmas.List.{ext_get_or}
use Rattle.std.proofs.lemmas.Option.{slice_get-get_or}
use Rattle.lay_borders.specs.declared.candidate.Cand.{Cand}
use Rattle.lay_borders.specs.Edges.{IsEdge}
use Rattle.lay_borders.specs.Laws.{OneBorderEach}
use Rattle.lay_borders.proofs.Order.{one_winner_lem}

pub edge_same : (borders : List Cand) (x y : Option Cand) → IsEdge borders x → IsEdge borders y → x ≡ y
edge_same borders None None p q = refl
edge_same borders None (Some w) p q = let at = q.one_of.1 in absurd (cc (p, at))
edge_same borders (Some v) None p q = let at = p.one_of.1 in absurd (cc (q, at))
edge_same borders (Some v) (Some w) p q = ap (λ (c : Cand). Some c) (one_winner_lem borders v w p q)

pub one_border_each_lem : OneBorderEach
one_border_each_lem meeting xs ys p q =
    let a = p.as_many in let b = q.as_many in
    ext_get_or None xs ys (p.as_many ∙ sym q.as_many) (λ k lt.
    edge_same (get_or meeting k []) (get_or xs k None) (get_or ys k None)
    (p.each k (get_or meeting k []) (get_or xs k None) (slice_get-get_or meeting k [] (omega (arith, a, lt))) (slice_get-get_or xs k None lt))
    (q.each k (get_or meeting k []) (get_or ys k None) (slice_get-get_or meeting k [] (omega (arith, a, lt)))
    (slice_get-get_or ys k None (omega (arith, a, b, lt)))))
