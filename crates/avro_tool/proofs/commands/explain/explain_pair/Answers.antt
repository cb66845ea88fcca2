-- The answer of the two schemas, in this order.
use Rattle.std.proofs.Common.{refl, subst, arith}
use Rattle.std.specs.Prelude.{codes}
use Rattle.avro_schema.specs.SeenSchema.{schema_nodes}
use Rattle.avro_explain.specs.Places.{marked}
use Rattle.avro_answer.proofs.public.FaultsAnswers.{no_member, some_member, yes_status, no_status, with_texts}
use Rattle.avro_answer.proofs.public.PairLimits.{within_limit}
use Rattle.avro_tool.proofs.commands.explain.explain_pair.Goals as goal

pub returns-in_ok-print-in-Ok-clause-status : goal.returns-in_ok-print-in-Ok-clause-status
returns-in_ok-print-in-Ok-clause-status g c =
    let writer = schema_nodes c.args.writer.now in
    let reader = schema_nodes c.args.reader.now in
    let found = c.in-Ok.found in
    yes_status writer reader c.args.asked.now.max_pairs
    (within_limit writer reader (marked found.dead.items) found.places.items c.args.asked.now.max_pairs c.in-Ok.ensures.dead c.in-Ok.ensures.visited c.in-Ok.ensures.limit)
    (c.in-Ok.ensures.compatible (no_member found.faults.items found.faults.len c.is_empty.result found.faults.ok.0 c.is_empty.ensures c.if-is_empty.true))

pub returns-in_ok-print-in-Ok-clause-answered : goal.returns-in_ok-print-in-Ok-clause-answered
returns-in_ok-print-in-Ok-clause-answered g c = λ is_text.
    let writer = schema_nodes c.args.writer.now in
    let reader = schema_nodes c.args.reader.now in
    let found = c.in-Ok.found in (
      codes "yes\n",
      with_texts writer reader c.args.asked.now.max_pairs (codes "yes\n") 0
          (yes_status writer reader c.args.asked.now.max_pairs
          (within_limit writer reader (marked found.dead.items) found.places.items c.args.asked.now.max_pairs c.in-Ok.ensures.dead c.in-Ok.ensures.visited c.in-Ok.ensures.limit)
          (c.in-Ok.ensures.compatible (no_member found.faults.items found.faults.len c.is_empty.result found.faults.ok.0 c.is_empty.ensures c.if-is_empty.true)))
          (λ h. refl) (λ h. absurd (omega (arith, h))) (λ h. absurd (omega (arith, h))),
      subst (λ bytes. g.O.Output.keeps c.args.out.now bytes c.print.new.out) (c.no_fault.ensures.text is_text) c.in_ok-print-in-Ok.ensures.put,
    )

pub returns-in_ok-put_faults-in-Ok-2-clause-status : goal.returns-in_ok-put_faults-in-Ok-2-clause-status
returns-in_ok-put_faults-in-Ok-2-clause-status g c =
    let writer = schema_nodes c.args.writer.now in
    let reader = schema_nodes c.args.reader.now in
    let found = c.in-Ok.found in
    no_status writer reader c.args.asked.now.max_pairs
    (within_limit writer reader (marked found.dead.items) found.places.items c.args.asked.now.max_pairs c.in-Ok.ensures.dead c.in-Ok.ensures.visited c.in-Ok.ensures.limit)
    (λ compatible. some_member found.faults.items found.faults.len c.is_empty.result found.faults.ok.0 c.is_empty.ensures c.if-is_empty.false (c.in-Ok.ensures.none compatible))

pub returns-in_ok-put_faults-in-Ok-2-clause-answered : goal.returns-in_ok-put_faults-in-Ok-2-clause-answered
returns-in_ok-put_faults-in-Ok-2-clause-answered g c = λ is_text.
    let writer = schema_nodes c.args.writer.now in
    let reader = schema_nodes c.args.reader.now in
    let found = c.in-Ok.found in
    let told = c.in_ok-put_faults-in-Ok-2.ensures.put is_text c.in-Ok.ensures.faults in (
      told.0,
      with_texts writer reader c.args.asked.now.max_pairs told.0 1
          (no_status writer reader c.args.asked.now.max_pairs
          (within_limit writer reader (marked found.dead.items) found.places.items c.args.asked.now.max_pairs c.in-Ok.ensures.dead c.in-Ok.ensures.visited c.in-Ok.ensures.limit)
          (λ compatible. some_member found.faults.items found.faults.len c.is_empty.result found.faults.ok.0 c.is_empty.ensures c.if-is_empty.false (c.in-Ok.ensures.none compatible)))
          (λ h. absurd (omega (arith, h))) (λ h. absurd (omega (arith, h)))
          (λ h. record {
            dead = marked found.dead.items;
            greatest = c.in-Ok.ensures.dead;
            places = found.places.items;
            reached = c.in-Ok.ensures.visited;
            placed = c.in-Ok.ensures.placed;
            breadth = c.in-Ok.ensures.breadth;
            followed = c.in-Ok.ensures.followed;
            searched = c.in-Ok.ensures.searched;
            faults = found.faults.items;
            exact = c.in-Ok.ensures.faults;
            told = told.1;
          }),
      told.2,
    )

pub returns-in_ok-print-in-Ok-clause-json : goal.returns-in_ok-print-in-Ok-clause-json
returns-in_ok-print-in-Ok-clause-json g c = λ is_json. (
  c.no_fault.result.now,
  record {
    known = returns-in_ok-print-in-Ok-clause-status g c;
    yes = λ _. c.no_fault.ensures.json is_json;
    faults = λ h. absurd (omega (arith, h));
    undecided = λ h. absurd (omega (arith, h));
  },
  c.in_ok-print-in-Ok.ensures.put,
)

pub returns-in_ok-put_faults-in-Ok-2-clause-json : goal.returns-in_ok-put_faults-in-Ok-2-clause-json
returns-in_ok-put_faults-in-Ok-2-clause-json g c = λ is_json.
    let found = c.in-Ok.found in
    let told = c.in_ok-put_faults-in-Ok-2.ensures.json is_json c.in-Ok.ensures.faults in (
      told.0,
      record {
        known = returns-in_ok-put_faults-in-Ok-2-clause-status g c;
        yes = λ h. absurd (omega (arith, h));
        faults = λ h. record {
          dead = marked found.dead.items;
          greatest = c.in-Ok.ensures.dead;
          places = found.places.items;
          reached = c.in-Ok.ensures.visited;
          placed = c.in-Ok.ensures.placed;
          breadth = c.in-Ok.ensures.breadth;
          followed = c.in-Ok.ensures.followed;
          searched = c.in-Ok.ensures.searched;
          faults = found.faults.items;
          exact = c.in-Ok.ensures.faults;
          told = told.1;
        };
        undecided = λ h. absurd (omega (arith, h));
      },
      told.2,
    )
