-- Tests of a path that the rows of masks call for.
use Rattle.std.specs.Prelude.{ℕ, Bool, List}
use Rattle.path_masks.specs.UnderWay.{begins_at, has_move, ends_by_move, is_just}
use Rattle.path_masks.specs.Masks.{touches}
use Rattle.path_masks.specs.declared.path_test.PathTest.{PathTest}
use Rattle.path_masks.specs.declared.path_test.PathTest.TheVariants as test

-- the path passes the test
abbrev pub passes : PathTest → List ℕ → Bool
passes (test.BeginsAt b) p = begins_at b p
passes (test.IsJust b) p = is_just b p
passes (test.HasMove v b) p = has_move v b p
passes (test.EndsByMove v b) p = ends_by_move v b p
passes (test.Touches v b) p = touches v b p
