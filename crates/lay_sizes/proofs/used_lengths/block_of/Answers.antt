use Rattle.lay_sizes.proofs.SizesFit.{used_is_size}
use Rattle.lay_sizes.proofs.used_lengths.block_of.Goals as goal

pub returns-clause-fits : goal.returns-clause-fits
returns-clause-fits c = record {
  containing_width = c.requires;
  margin_left = c.used_margin.ensures.fits;
  border_left = used_is_size _ c.size_of.ensures.size;
  padding_left = used_is_size _ c.used_size.ensures.size;
  width = c.used_width.ensures.size;
  padding_right = used_is_size _ c.used_size-2.ensures.size;
  border_right = used_is_size _ c.size_of-2.ensures.size;
  margin_right = c.used_margin-2.ensures.fits;
  min_width = used_is_size _ c.used_size-3.ensures.size;
  max_width = c.used_limit.ensures.size;
}
