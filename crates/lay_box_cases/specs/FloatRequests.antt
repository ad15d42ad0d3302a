-- What a drawn float asks for, in 1/64 px: to stand in a room from 0 to 800 px, from its top on.
use Rattle.std.specs.Prelude.{◌*◌, pos, if◌then◌else◌}
use Rattle.lay_floats.specs.declared.requests.FloatReq.{FloatReq}
use Rattle.lay_floats.specs.declared.requests.Clear.TheVariants.{None}
use Rattle.lay_floats.specs.declared.requests.Side.TheVariants.{Left, Right}
use Rattle.lay_box_cases.specs.declared.float_draws.Drawn.{Drawn}

abbrev pub drawn_request : Drawn → FloatReq
drawn_request f = record {
  side = if f.is_left then Left else Right;
  width = record { 0 = pos (f.width * 64) };
  height = record { 0 = pos (f.height * 64) };
  left = record { 0 = pos 0 };
  right = record { 0 = pos 51200 };
  ceiling = record { 0 = pos 0 };
  clear = None;
}
