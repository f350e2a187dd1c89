use Rattle.std.proofs.Common.{◌≡◌, map, take}
use Rattle.bac_objects.specs.Build.{entry_of}
use Rattle.bac_objects.specs.Kept.{AreObjects}
use Rattle.bac_objects.proofs.build.objects_of.Given as goal

abbrev pub invariant-loop-line : goal.invariant-loop-line
invariant-loop-line l = record {
  made : l.objects.entries ≡ map entry_of (take l.line-index l.lines);
  kept : AreObjects l.objects.entries;
}
