use Rattle.toml_names.proofs.Proved.{themselves_differ, own_addresses_differ, own_address_is_named, own_address_has_fact, header_is_section}
use Rattle.toml_names.proofs.laws.own_addresses.Goals as goal

pub returns : goal.returns
returns c = record { themselves = themselves_differ; differ = own_addresses_differ; named = own_address_is_named; fact = own_address_has_fact; section = header_is_section }
