use Rattle.std.proofs.Common.{◌∙◌, ap}
use Rattle.std.proofs.lemmas.Result.{on_ok_weaker}
use Rattle.toml_layout.specs.Items.{items_of}
use Rattle.toml_layout.specs.OpenOutlines.{assign}
use Rattle.toml_layout.specs.PairPlaces.{laid_key}
use Rattle.toml_layout.proofs.texts.Texts.put_pair.Goals as goal

pub returns : goal.returns
returns c =
    let m = items_of c.args.pairs.now in
    let i = c.in_ok-index.index in
    on_ok_weaker c.put.result (λ puts. record {
      index = i;
      place = c.in_ok-index.ensures.place;
      key = _;
      spelled = c.in_ok-index.ensures.key
          ∙ ap (λ a. laid_key c.args.self.layout m i (assign a)) (c.deref_mut.ensures.value ∙ c.in_ok-assign-2.ensures.ok)
          ∙ ap (laid_key c.args.self.layout m i) c.in_ok-assign.ensures;
      puts = puts;
    }) c.put.ensures
