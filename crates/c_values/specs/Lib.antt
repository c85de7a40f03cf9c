pub mod ValuesFace
