-- What stands at an address, as the definitions have it.
use Rattle.toml_names.specs.declared.mentions.mention.Kind.{Kind}
use Rattle.toml_names.specs.declared.mentions.mention.Kind.TheVariants as kinds
use Rattle.toml_names.specs.mentions.Mentions as mentions

abbrev pub kind : Kind → mentions.Kind
kind kinds.Table = mentions.a_table
kind kinds.Array = mentions.an_array
kind (kinds.Scalar k token) = mentions.token_kind k token.now
