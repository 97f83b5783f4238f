use mathlib.Core.Path.{sym}
use lib.Seq.{length-take-le}
use Rattle.scope.proofs.remembered.find.Goals as goal

pub slice_bounds-find_in-end : goal.slice_bounds-find_in-end
slice_bounds-find_in-end c = sym (length-take-le _ _ c.requires.recalling.both.fits)

pub find_in-requires : goal.find_in-requires
find_in-requires c = record { recalls = c.requires.recalling.scope; name_value = c.requires.name_value }
