-- What a take put into the storage stands after what was held.
use Rattle.std.proofs.Common.{◌≡◌, ◌+◌, ◌-◌, ◌≤◌, ◌++◌, length, take, slice_range, ap, ◌∙◌, rules}
use Rattle.std.proofs.lemmas.List.{with_items_is, places}
use borrow.Rule.Slice.PartMut.{put_mid}
use Rattle.avro_file.proofs.Storage.{taken_behind, kept_before}
use Rattle.avro_file.proofs.input.buffer.Buffer.take_more.Goals as goal

pub returns-in-Ok-clause-taken : goal.returns-in-Ok-clause-taken
returns-in-Ok-clause-taken g c =
    let b = c.reserve.new.self in
    let storage = c.deref_mut.result.now in
    let more = c.take.new.buffer in
    let k = b.end + c.args.most - b.end in
    let n = c.in-Ok.count in
    let whole = with_items_is b.storage (put_mid b.end k storage more) (search (rules, places)) in
    let same : storage ≡ b.storage.items = c.deref_mut.ensures.value in
    let within : b.end ≤ length storage = search (rules, places) in
    record {
      bytes = take n more;
      taken = c.in-Ok.ensures.taken;
      grown = ap (λ all. slice_range all b.start (b.end + n)) whole
          ∙ taken_behind storage more b.start b.end k n b.ordered within c.in-Ok.ensures.within
          ∙ ap (λ all. slice_range all b.start b.end ++ take n more) same
          ∙ ap (λ before. before ++ take n more) c.in_ok-reserve.ensures.same;
    }

pub returns-in-Err-clause-same : goal.returns-in-Err-clause-same
returns-in-Err-clause-same g c =
    let b = c.reserve.new.self in
    let storage = c.deref_mut.result.now in
    let more = c.take.new.buffer in
    let k = b.end + c.args.most - b.end in
    let whole = with_items_is b.storage (put_mid b.end k storage more) (search (rules, places)) in
    let same : storage ≡ b.storage.items = c.deref_mut.ensures.value in
    let within : b.end ≤ length storage = search (rules, places) in
    ap (λ all. slice_range all b.start b.end) whole
    ∙ kept_before storage more b.start b.end k b.ordered within
    ∙ ap (λ all. slice_range all b.start b.end) same
    ∙ c.in_ok-reserve.ensures.same
