use Rattle.std.proofs.Common.{sym, subst}
use Rattle.lay_cascade.specs.ClassSets.{MaySetOf}
use Rattle.lay_cascade.proofs.names.fits.Goals as goal

pub has_class-requires : goal.has_class-requires
has_class-requires c = subst (λ z. MaySetOf z c.args.set.now) (sym c.as_slice.ensures) c.requires
