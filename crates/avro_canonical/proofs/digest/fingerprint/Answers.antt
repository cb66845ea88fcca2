use Rattle.std.proofs.Common.{◌≡◌, ◌∷◌, ◌++◌, [], sym, subst, string_bytes, rules, arith}
use Rattle.std.proofs.lemmas.Grind.{common_steps}
use Rattle.sha2.specs.Hashers.{Holds256}
use Rattle.avro_schema.specs.SeenSchema.{schema_nodes}
use Rattle.avro_canonical.specs.inside.Pending.{pendings_of, of_node, IsStep}
use Rattle.avro_canonical.proofs.StepsTaken.{Begins, begins_first, begins_then, begins_as, begins_last, step-behind}
use Rattle.avro_canonical.proofs.digest.fingerprint.Goals as goal

pub loop-init : goal.loop-init
loop-init c =
    let nodes = schema_nodes c.args.schema.now in
    let none : string_bytes c.new-text.result ≡ [] = search rules in
    let first : pendings_of c.put_part.new.parts.items ≡ of_node 0 ∷ [] = search rules in (
      [],
      c.new-hasher.ensures,
      subst (λ ps. Begins nodes c.in_ok-marks.marks.items ps (string_bytes c.new-text.result)) (sym first)
          (subst (λ t. Begins nodes c.in_ok-marks.marks.items (of_node 0 ∷ []) t) (sym none) (begins_first nodes c.in_ok-marks.marks.items c.in_ok-marks.ensures)),
    )

pub loop-preserved : goal.loop-preserved
loop-preserved c =
    let nodes = schema_nodes c.args.schema.now in
    let hashed = c.loop.invariant.0 in
    let old = string_bytes c.loop.text in
    let new = string_bytes c.write_part.new.out in
    let ps = pendings_of c.loop.parts.items in
    let qs = pendings_of c.write_part.new.parts.items in
    let step : IsStep nodes c.loop.marks.items ps old c.write_part.new.marks qs new = search rules in
    let begins = begins_then nodes c.loop.marks.items ps (hashed ++ old) c.write_part.new.marks qs (hashed ++ new) c.loop.invariant.2 (step-behind nodes c.loop.marks.items ps hashed old c.write_part.new.marks qs new step) in
    let piece = c.hash_piece.ensures hashed c.loop.invariant.1 in
    (piece.0, piece.1, begins_as nodes _ c.write_part.new.marks qs (piece.0 ++ string_bytes c.hash_piece.new.text) (hashed ++ new) (grind (arith, common_steps)) piece.2 begins)

pub returns-in-None : goal.returns-in-None
returns-in-None c =
    let nodes = schema_nodes c.args.schema.now in
    let hashed = c.loop.invariant.0 in
    let same : c.as_bytes.result.now ≡ string_bytes c.loop.text = search rules in
    record {
      text = hashed ++ string_bytes c.loop.text;
      canonical = begins_last nodes c.loop.marks.items (pendings_of c.loop.parts.items) (hashed ++ string_bytes c.loop.text) c.in-None.ensures c.loop.invariant.2;
      digested = c.finalize.ensures (hashed ++ string_bytes c.loop.text) (subst (λ t. Holds256 c.update.new.self (hashed ++ t)) same (c.update.ensures hashed c.loop.invariant.1));
    }
