use Rattle.std.proofs.Common.{◌≡◌, true, ◌++◌, drop, map, flat_map}
use Rattle.std.specs.List.{list_all}
use Rattle.avro_history.specs.HistoryText.{sets_text, do_rise}
use Rattle.avro_history.specs.SeenHistory.{set_of}
use Rattle.avro_history.proofs.writing.write_certificates.Given as goal

abbrev pub invariant-loop-certificate : goal.invariant-loop-certificate
invariant-loop-certificate l = record {
  written : l.text.items ++ flat_map sets_text (map set_of (drop l.certificate-index l.certificates)) ≡ l.fn.text.items ++ flat_map sets_text (map set_of l.certificates);
  rising : list_all do_rise (map set_of (drop l.certificate-index l.certificates)) ≡ true → list_all do_rise (map set_of l.certificates) ≡ true;
}
