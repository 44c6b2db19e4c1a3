-- Tests of an arc that sums over arcs call for.
use Rattle.std.specs.Prelude.{Bool}
use Rattle.cov_base.specs.Net.{joins}
use Rattle.cov_base.specs.declared.net.FlowArc.{FlowArc}
use Rattle.report_parts.specs.Shown.{enters, is_way_out, is_call_exit_of}
use Rattle.report_parts.specs.Functions.{is_return, is_call_exit}
use Rattle.report_parts.specs.declared.arc_test.ArcTest.{ArcTest}
use Rattle.report_parts.specs.declared.arc_test.ArcTest.TheVariants as test

-- the arc passes the test
abbrev pub passes : ArcTest → FlowArc → Bool
passes test.IsCall arc = joins 0 2 arc
passes test.IsReturn arc = is_return arc
passes test.IsCallExit arc = is_call_exit arc
passes (test.Enters block) arc = enters block arc
passes (test.IsWayOut block) arc = is_way_out block arc
passes (test.IsCallExitOf block) arc = is_call_exit_of block arc
