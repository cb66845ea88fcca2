use Rattle.std.proofs.Common.{◌∙◌, arith, subst}
use Rattle.avro_schema.specs.SeenSchema.{schema_nodes}
use Rattle.avro_explain.specs.Places.{marked}
use Rattle.avro_answer.specs.declared.form.Form.{Form}
use Rattle.avro_answer.specs.inside.FaultsAdded.{AreTold}
use Rattle.avro_answer.proofs.public.FaultsAnswers.{no_member, some_member, yes_status, no_status, with_texts}
use Rattle.avro_answer.proofs.public.PairLimits.{within_limit}
use Rattle.avro_answer.proofs.explaining.explain_schemas.Goals as goal

pub returns-in_ok-from_slice-in-Ok-clause-status :
    goal.returns-in_ok-from_slice-in-Ok-clause-status
returns-in_ok-from_slice-in-Ok-clause-status c =
    let writer = schema_nodes c.args.writer.now in
    let reader = schema_nodes c.args.reader.now in
    let found = c.in-Ok.found in
    yes_status writer reader c.args.max_pairs
    (within_limit writer reader (marked found.dead.items) found.places.items c.args.max_pairs c.in-Ok.ensures.dead c.in-Ok.ensures.visited c.in-Ok.ensures.limit)
    (c.in-Ok.ensures.compatible (no_member found.faults.items found.faults.len c.is_empty.result found.faults.ok.0 c.is_empty.ensures c.if-is_empty.true))

pub returns-in_ok-from_slice-in-Ok-clause-answered :
    goal.returns-in_ok-from_slice-in-Ok-clause-answered
returns-in_ok-from_slice-in-Ok-clause-answered c = λ is_text.
    let writer = schema_nodes c.args.writer.now in
    let reader = schema_nodes c.args.reader.now in
    let found = c.in-Ok.found in
    with_texts writer reader c.args.max_pairs c.in_ok-from_slice-in-Ok.field-0.items 0
    (yes_status writer reader c.args.max_pairs
    (within_limit writer reader (marked found.dead.items) found.places.items c.args.max_pairs c.in-Ok.ensures.dead c.in-Ok.ensures.visited c.in-Ok.ensures.limit)
    (c.in-Ok.ensures.compatible (no_member found.faults.items found.faults.len c.is_empty.result found.faults.ok.0 c.is_empty.ensures c.if-is_empty.true)))
    (λ h. c.in_ok-from_slice-in-Ok.ensures.items ∙ (c.as_bytes.ensures.value ∙ c.no_fault.ensures.text is_text))
    (λ h. absurd (omega (arith, h)))
    (λ h. absurd (omega (arith, h)))

pub returns-in_ok-faults_text-in-Ok-2-clause-status :
    goal.returns-in_ok-faults_text-in-Ok-2-clause-status
returns-in_ok-faults_text-in-Ok-2-clause-status c =
    let writer = schema_nodes c.args.writer.now in
    let reader = schema_nodes c.args.reader.now in
    let found = c.in-Ok.found in
    no_status writer reader c.args.max_pairs
    (within_limit writer reader (marked found.dead.items) found.places.items c.args.max_pairs c.in-Ok.ensures.dead c.in-Ok.ensures.visited c.in-Ok.ensures.limit)
    (λ compatible. some_member found.faults.items found.faults.len c.is_empty.result found.faults.ok.0 c.is_empty.ensures c.if-is_empty.false (c.in-Ok.ensures.none compatible))

pub returns-in_ok-faults_text-in-Ok-2-clause-answered :
    goal.returns-in_ok-faults_text-in-Ok-2-clause-answered
returns-in_ok-faults_text-in-Ok-2-clause-answered c = λ is_text.
    let writer = schema_nodes c.args.writer.now in
    let reader = schema_nodes c.args.reader.now in
    let found = c.in-Ok.found in
    with_texts writer reader c.args.max_pairs c.in_ok-faults_text-in-Ok-2.field-0.items 1
    (no_status writer reader c.args.max_pairs
    (within_limit writer reader (marked found.dead.items) found.places.items c.args.max_pairs c.in-Ok.ensures.dead c.in-Ok.ensures.visited c.in-Ok.ensures.limit)
    (λ compatible. some_member found.faults.items found.faults.len c.is_empty.result found.faults.ok.0 c.is_empty.ensures c.if-is_empty.false (c.in-Ok.ensures.none compatible)))
    (λ h. absurd (omega (arith, h)))
    (λ h. absurd (omega (arith, h)))
    (λ h. record {
      dead = marked found.dead.items;
      greatest = c.in-Ok.ensures.dead;
      places = found.places.items;
      reached = c.in-Ok.ensures.visited;
      placed = c.in-Ok.ensures.placed;
      breadth = c.in-Ok.ensures.breadth;
      followed = c.in-Ok.ensures.followed;
      searched = c.in-Ok.ensures.searched;
      faults = found.faults.items;
      exact = c.in-Ok.ensures.faults;
      told = subst (λ (f : Form). AreTold f writer reader found.places.items found.faults.items c.in_ok-faults_text-in-Ok-2.field-0.items) is_text
          (c.in_ok-faults_text-in-Ok-2.ensures c.in-Ok.ensures.faults);
    })

pub returns-in_ok-from_slice-in-Ok-clause-json : goal.returns-in_ok-from_slice-in-Ok-clause-json
returns-in_ok-from_slice-in-Ok-clause-json c = λ is_json. record {
  known = returns-in_ok-from_slice-in-Ok-clause-status c;
  yes = λ _. c.in_ok-from_slice-in-Ok.ensures.items ∙ (c.as_bytes.ensures.value ∙ c.no_fault.ensures.json is_json);
  faults = λ h. absurd (omega (arith, h));
  undecided = λ h. absurd (omega (arith, h));
}

pub returns-in_ok-faults_text-in-Ok-2-clause-json : goal.returns-in_ok-faults_text-in-Ok-2-clause-json
returns-in_ok-faults_text-in-Ok-2-clause-json c = λ is_json.
    let writer = schema_nodes c.args.writer.now in
    let reader = schema_nodes c.args.reader.now in
    let found = c.in-Ok.found in record {
      known = returns-in_ok-faults_text-in-Ok-2-clause-status c;
      yes = λ h. absurd (omega (arith, h));
      undecided = λ h. absurd (omega (arith, h));
      faults = λ _. record {
        dead = marked found.dead.items;
        greatest = c.in-Ok.ensures.dead;
        places = found.places.items;
        reached = c.in-Ok.ensures.visited;
        placed = c.in-Ok.ensures.placed;
        breadth = c.in-Ok.ensures.breadth;
        followed = c.in-Ok.ensures.followed;
        searched = c.in-Ok.ensures.searched;
        faults = found.faults.items;
        exact = c.in-Ok.ensures.faults;
        told = subst (λ (f : Form). AreTold f writer reader found.places.items found.faults.items c.in_ok-faults_text-in-Ok-2.field-0.items) is_json
            (c.in_ok-faults_text-in-Ok-2.ensures c.in-Ok.ensures.faults);
      };
    }
