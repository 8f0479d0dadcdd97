use Rattle.std.proofs.Common.{refl}
use Rattle.std.proofs.lemmas.Option.{slice_get_read}
use Rattle.toml_layout.proofs.texts.Texts.empty_in.Goals as goal

pub returns : goal.returns
returns c =
    let list = c.args.list.now in
    record {
      one = c.index_mut.result.now;
      other = c.empty_pair.new.pair;
      here = slice_get_read list.items list.len c.args.place c.index_mut.result.now list.ok.0 c.requires c.index_mut.ensures.value;
      emptied = c.in_ok-empty_pair.ensures;
      now_is = refl;
    }
