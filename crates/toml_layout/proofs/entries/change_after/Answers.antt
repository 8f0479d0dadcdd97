use Rattle.std.proofs.lemmas.Option.{slice_get_read}
use Rattle.toml_layout.proofs.ItemGaps.{after_put}
use Rattle.toml_layout.proofs.entries.change_after.Goals as goal

pub returns : goal.returns
returns c =
    let list = c.args.list.now in
    after_put list.items c.args.place c.index_mut.result.now c.args.gap c.replace.new.dest c.replace.result
    (slice_get_read list.items list.len c.args.place c.index_mut.result.now list.ok.0 c.requires c.index_mut.ensures.value) c.replace.ensures.value c.replace.ensures.after
