use Rattle.std.proofs.Common.{◌≡◌, ◌++◌, List, Option, Ok, refl, subst}
use Rattle.std.specs.Prelude.{OnErr, OnOk}
use Rattle.avro_schema.specs.Node.{Node, root_of}
use Rattle.avro_schema.specs.Seen.{value_of}
use Rattle.avro_schema.specs.SeenSchema.{schema_nodes}
use Rattle.avro_schema.specs.Value.{Value}
use Rattle.avro_device.specs.PutFront.{PutsFrontOf}
use Rattle.avro_display.specs.DisplayTree.{display_text}
use Rattle.avro_display.specs.Pieces.{PutsText}
use Rattle.avro_answer.specs.ReadAnswer.{nodes_for, read_as}
use Rattle.avro_answer.proofs.DataPlans.{in_none, in_plan, table_for, table_plain}
use Rattle.avro_answer.proofs.DataFound.{same_ok}
use Rattle.avro_answer.proofs.data_plan.DataPlan.put_datum.Goals as goal

pub returns-in-Some-clause-put : goal.returns-in-Some-clause-put
returns-in-Some-clause-put g c =
    let p = c.self.inside in
    let q = c.in-Some.plan in
    let one = c.put_for in
    in_plan (λ (W : List Node) (R : Option (List Node)). (u : Value) → read_as W R (value_of c.args.datum.now) ≡ Ok u
    → OnOk one.result (PutsText g.O.Output.keeps c.args.out.now c.args.text.now (display_text (nodes_for W R) (root_of (nodes_for W R)) u) one.new.out one.new.text))
    p.writer.now c.args.self.now p.plan q c.self.view_is c.in-Some.is c.self.invariant.0
    (λ u reads. subst (λ (nodes : List Node). OnOk one.result (PutsText g.O.Output.keeps c.args.out.now c.args.text.now (display_text nodes (root_of nodes) u) one.new.out one.new.text))
    (table_for p.writer.now (schema_nodes p.table) p.plan c.self.invariant.1 q c.in-Some.is) (one.ensures.put u reads))

pub returns-in-Some-clause-front : goal.returns-in-Some-clause-front
returns-in-Some-clause-front g c =
    let p = c.self.inside in
    let q = c.in-Some.plan in
    let one = c.put_for in
    in_plan (λ (W : List Node) (R : Option (List Node)). (u : Value) → read_as W R (value_of c.args.datum.now) ≡ Ok u
    → OnErr one.result (PutsFrontOf g.O.Output.keeps c.args.out.now one.new.out (c.args.text.now ++ display_text (nodes_for W R) (root_of (nodes_for W R)) u)))
    p.writer.now c.args.self.now p.plan q c.self.view_is c.in-Some.is c.self.invariant.0
    (λ u reads. subst (λ (nodes : List Node). OnErr one.result (PutsFrontOf g.O.Output.keeps c.args.out.now one.new.out (c.args.text.now ++ display_text nodes (root_of nodes) u)))
    (table_for p.writer.now (schema_nodes p.table) p.plan c.self.invariant.1 q c.in-Some.is) (one.ensures.front u reads))

pub returns-in-None-clause-put : goal.returns-in-None-clause-put
returns-in-None-clause-put g c =
    let p = c.self.inside in
    let v = value_of c.args.datum.now in
    let one = c.put_plain in
    in_none (λ (W : List Node) (R : Option (List Node)). (u : Value) → read_as W R v ≡ Ok u
    → OnOk one.result (PutsText g.O.Output.keeps c.args.out.now c.args.text.now (display_text (nodes_for W R) (root_of (nodes_for W R)) u) one.new.out one.new.text))
    p.writer.now c.args.self.now p.plan c.self.view_is c.in-None.is
    (λ u reads. subst (λ (u : Value). OnOk one.result (PutsText g.O.Output.keeps c.args.out.now c.args.text.now (display_text (schema_nodes p.writer.now) (root_of (schema_nodes p.writer.now)) u) one.new.out one.new.text))
    (same_ok (Ok v) v u refl reads)
    (subst (λ (nodes : List Node). OnOk one.result (PutsText g.O.Output.keeps c.args.out.now c.args.text.now (display_text nodes (root_of nodes) v) one.new.out one.new.text))
    (table_plain p.writer.now (schema_nodes p.table) p.plan c.self.invariant.1 c.in-None.is) one.ensures.put))

pub returns-in-None-clause-front : goal.returns-in-None-clause-front
returns-in-None-clause-front g c =
    let p = c.self.inside in
    let v = value_of c.args.datum.now in
    let one = c.put_plain in
    in_none (λ (W : List Node) (R : Option (List Node)). (u : Value) → read_as W R v ≡ Ok u
    → OnErr one.result (PutsFrontOf g.O.Output.keeps c.args.out.now one.new.out (c.args.text.now ++ display_text (nodes_for W R) (root_of (nodes_for W R)) u)))
    p.writer.now c.args.self.now p.plan c.self.view_is c.in-None.is
    (λ u reads. subst (λ (u : Value). OnErr one.result (PutsFrontOf g.O.Output.keeps c.args.out.now one.new.out (c.args.text.now ++ display_text (schema_nodes p.writer.now) (root_of (schema_nodes p.writer.now)) u)))
    (same_ok (Ok v) v u refl reads)
    (subst (λ (nodes : List Node). OnErr one.result (PutsFrontOf g.O.Output.keeps c.args.out.now one.new.out (c.args.text.now ++ display_text nodes (root_of nodes) v)))
    (table_plain p.writer.now (schema_nodes p.table) p.plan c.self.invariant.1 c.in-None.is) one.ensures.front))
