-- Nodes that are taken some at a time are taken as if all together.
use Rattle.std.proofs.Common.{◌≡◌, List, [], ◌∷◌, ◌++◌, Bool, true, false, ℕ, refl, sym, ap, ◌∙◌, Result, Ok, Err}
use Rattle.serde_json.specs.Data.{Data, Items, no_items, item}
use Rattle.lay_doc.specs.Document.{Document}
use Rattle.lay_doc.specs.declared.node.NodeId.{NodeId}
use Rattle.lay_cascade.specs.declared.node_names.names.Names.{Names}
use Rattle.lay_json.specs.Spans.Readings.{items_then}
use Rattle.lay_json.specs.declared.fault.InputFault.{InputFault}
use Rattle.lay_json.specs.declared.taken.Taken.{Taken}
use Rattle.lay_json.specs.Fields.{then_read}
use Rattle.lay_json.specs.Nodes.{node_at, document_of_root, put_node, put_nodes, document_of}
use Rattle.lay_json.specs.Listing.{id_in, ids_in}
use Rattle.lay_json.specs.SheetNames.{with_names, names_from}
use Rattle.lay_json.specs.Pulled.{more_names, Adds, IsTaken}
use Rattle.lay_doc.specs.NewNodes.{NewNodeValue}

-- two readings go on alike after what was read, where the first of them gives something
then_both : {A B : Type 0} (m : Result A InputFault) (f g : A → Result B InputFault) (b : B) (r : Result B InputFault) → ((a : A) → f a ≡ Ok b → g a ≡ r) → then_read m f ≡ Ok b → then_read m g ≡ r
then_both (Ok a) f g b r go h = go a h
then_both (Err fault) f g b r go h = absurd cc

-- what is read first stays, and what comes after it is read from there
nodes_then : (ds es : Items) (d e : Document) → put_nodes d ds ≡ Ok e → put_nodes d (items_then ds es) ≡ put_nodes e es
nodes_then no_items es d e is = let same : d ≡ e = cc in ap (λ x. put_nodes x es) same
nodes_then (item x xs) es d e is =
    then_both (put_node d x) (λ f. put_nodes f xs) (λ f. put_nodes f (items_then xs es)) e (put_nodes e es) (λ f h. nodes_then xs es f e h) is

ids_then : (ds es : Items) → ids_in (items_then ds es) ≡ ids_in ds ++ ids_in es
ids_then no_items es = refl
ids_then (item d ds) es = ap (λ ids. id_in d ∷ ids) (ids_then ds es)

names_then : (ds es : Items) (a b : List Names) → names_from a ds ≡ Ok b → names_from a (items_then ds es) ≡ names_from b es
names_then no_items es a b is = let same : a ≡ b = cc in ap (λ x. names_from x es) same
names_then (item x xs) es a b is =
    then_both (with_names a x) (λ f. names_from f xs) (λ f. names_from f (items_then xs es)) b (names_from b es) (λ f h. names_then xs es f b h) is

more_names_then : (named : Bool) (ds es : Items) (a b : List Names) → more_names named a ds ≡ Ok b → more_names named a (items_then ds es) ≡ more_names named b es
more_names_then true ds es a b is = names_then ds es a b is
more_names_then false ds es a b is = is

document_then : (viewport : ℕ × ℕ) (first : Data) (ds es : Items) (e : Document) → document_of viewport first ds ≡ Ok e → document_of viewport first (items_then ds es) ≡ put_nodes e es
document_then viewport first ds es e is =
    then_both (node_at 0 first) (λ r. then_read (document_of_root viewport r) (λ d. put_nodes d ds))
    (λ r. then_read (document_of_root viewport r) (λ d. put_nodes d (items_then ds es))) e (put_nodes e es) of_root is
  where
    of_root : (r : NodeId × NewNodeValue) → then_read (document_of_root viewport r) (λ d. put_nodes d ds) ≡ Ok e
        → then_read (document_of_root viewport r) (λ d. put_nodes d (items_then ds es)) ≡ put_nodes e es
    of_root r h = then_both (document_of_root viewport r) (λ d. put_nodes d ds) (λ d. put_nodes d (items_then ds es)) e (put_nodes e es) (λ d g. nodes_then ds es d e g) h

pub taken_more : (viewport : ℕ × ℕ) (named : Bool) (first : Data) (rest ds : Items) (old new : Taken) → IsTaken viewport named first rest old → Adds named old ds new → IsTaken viewport named first (items_then rest ds) new
taken_more viewport named first rest ds old new was adds = (
  document_then viewport first rest ds old.doc was.0 ∙ adds.0,
  adds.1 ∙ ap (λ ids. ids ++ ids_in ds) was.1 ∙ ap (λ ids. id_in first ∷ ids) (sym (ids_then rest ds)),
  more_names_then named (item first rest) ds [] old.names was.2 ∙ adds.2,
)
