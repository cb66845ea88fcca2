use Rattle.std.proofs.Common.{◌≡◌, false, string_bytes, refl, subst}
use Rattle.serde_json.specs.Data.{no_members}
use Rattle.serde_json.specs.Written.{compact_text, has_float}
use Rattle.avro_file.specs.Parts.{properties_of}
use Rattle.avro_tool.proofs.Headers.{all_texts}
use Rattle.avro_tool.proofs.commands.header.display_of.Goals as goal

pub returns : goal.returns
returns c =
    subst (λ d. has_float d ≡ false → string_bytes c.in_ok-text.text ≡ compact_text d) c.in_ok-tree.ensures c.in_ok-text.ensures.text
    (all_texts (properties_of c.args.metadata.now) no_members refl)
